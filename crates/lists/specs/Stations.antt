-- Lists of stations, as queues from top to bottom: what they hold, their top, and the rest.
use Rattle.std.specs.Prelude.{◌≡◌, ℕ, Bool, true, false, not, ◌&&◌, ◌||◌, List, [], ◌∷◌, Some, None, Option, ◌==◌, nat_lt}

abbrev pub holds : List ℕ → ℕ → Bool
holds [] k = false
holds (x ∷ xs) k = k == x || holds xs k

-- no station twice, and each below 1024
abbrev pub proper : List ℕ → Bool
proper [] = true
proper (x ∷ xs) = nat_lt x 1024 && (not (holds xs x) && proper xs)

-- no station is in both
abbrev pub Apart : List ℕ → List ℕ → Type 0
Apart xs ys = (k : ℕ) → holds xs k ≡ true → holds ys k ≡ false

abbrev pub top_of : List ℕ → Option ℕ
top_of [] = None
top_of (x ∷ xs) = Some x

abbrev pub rest_of : List ℕ → List ℕ
rest_of [] = []
rest_of (x ∷ xs) = xs
