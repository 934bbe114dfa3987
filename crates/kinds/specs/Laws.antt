-- The laws of a kind of grade, over its members: a total order of labels, with which carrying and ranks agree.
use Rattle.std.specs.Prelude.{◌≡◌, ℕ, ◌^◌, ◌<◌, ◌≤◌, Bool, true, ◌⊎◌}

-- x is at least as good as y where `at_least x y` is true
pub record Laws {L G : Type 0} (carry : L → G → L) (at_least : L → L → Bool) (rank : L → ℕ) : Type 0 where
  pub total : (x y : L) → (at_least x y ≡ true) ⊎ (at_least y x ≡ true)
  pub trans : (x y z : L) → at_least x y ≡ true → at_least y z ≡ true → at_least x z ≡ true
  pub antisym : (x y : L) → at_least x y ≡ true → at_least y x ≡ true → x ≡ y
  -- carrying is monotone
  pub keeps : (x y : L) (g : G) → at_least x y ≡ true → at_least (carry x g) (carry y g) ≡ true
  -- and never improves a label
  pub worsens : (x : L) (g : G) → at_least x (carry x g) ≡ true
  -- ranks follow the order
  pub ranks : (x y : L) → at_least x y ≡ true → rank x ≤ rank y
  -- and have 32 bits
  pub narrow : (x : L) → rank x < 2 ^ 32
