-- Backward walks whose links lead from a station at which the walk stops.
use Rattle.std.proofs.Common.{◌≡◌, ℕ, zero, suc, ◌≢◌, true, false, List, ◌∷◌, sym, ap, ◌∙◌, inl, inr}
use Rattle.std.proofs.lemmas.Bool.{cases_Bool}
use Rattle.net.specs.Table.{Table, tail_at}
use Rattle.paths.proofs.Turned.{Comes}
use Rattle.walks.specs.Walk.{entry_at, moves, walk, walk_end}

module _ (t : Table) (entries : List ℕ) (a : ℕ) where
  -- the walk ends there
  pub home-end : (n v : ℕ) → Comes t a (walk t entries n v) v → walk_end t entries n v ≡ a
  unfolding walk walk_end
  home-end zero v h = h
  home-end (suc n) v h = elim (cases_Bool (moves t entries v)) [
    | inl m ↦ rw m (home-end n (tail_at t (entry_at entries v)) (rw m at h).2)
    | inr m ↦ rw m (rw m at h)
  ]

  -- from another station it moves
  pub home-moves : (n v : ℕ) → Comes t a (walk t entries n v) v → v ≢ a → moves t entries v ≡ true
  unfolding walk
  home-moves zero v h other = absurd (other h)
  home-moves (suc n) v h other = elim (cases_Bool (moves t entries v)) [
    | inl m ↦ m
    | inr m ↦ absurd (other (rw m at h))
  ]

  module _ (stop : moves t entries a ≡ false) where
    -- it is the same in one move more
    home-more : (n v : ℕ) → Comes t a (walk t entries n v) v → walk t entries (suc n) v ≡ walk t entries n v
    unfolding walk
    home-more zero v h = let still : moves t entries v ≡ false = ap (moves t entries) h ∙ stop in rw still
    home-more (suc n) v h = elim (cases_Bool (moves t entries v)) [
      | inl m ↦ rw m (ap (λ w. entry_at entries v ∷ w) (home-more n (tail_at t (entry_at entries v)) (rw m at h).2))
      | inr m ↦ rw m
    ]

    -- so its first move leads to a walk of the same kind
    pub home-first : (n v : ℕ) → Comes t a (walk t entries n v) v → v ≢ a
        → walk t entries n v ≡ entry_at entries v ∷ walk t entries n (tail_at t (entry_at entries v))
    unfolding walk
    home-first n v h other = let m = home-moves n v h other in sym (home-more n v h) ∙ rw m
