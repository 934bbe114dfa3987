-- Reading the values that words spell.
use Rattle.std.specs.Prelude.{◌≡◌, ℕ, ◌+◌, ◌⊎◌, List, [], ◌∷◌, Some, None, Ok, Err, Option, Result, MatchResult}
use Rattle.std.specs.Option.{ok_or}
use Rattle.answers.specs.declared.trouble.Bounds.{Bounds}
use Rattle.answers.specs.declared.trouble.Trouble.{Trouble}
use Rattle.answers.specs.declared.trouble.Trouble.TheVariants.{NotNumber, Memory}

-- one value more, or the trouble with its word
abbrev pub read_more : {T : Type 0} → Option T → Trouble → Result (List T) Trouble → Result (List T) Trouble
read_more None e r = Err e
read_more (Some x) e (Ok xs) = Ok (x ∷ xs)
read_more (Some x) e (Err f) = Err f

-- the values that words spell, the first of which is the k-th word of its line, or the trouble with the first that spells none
abbrev pub read_all : {T : Type 0} → (List ℕ → Option T) → Bounds → ℕ → List (List ℕ) → Result (List T) Trouble
read_all reads bounds k [] = Ok []
read_all reads bounds k (w ∷ ws) = read_more (reads w) (NotNumber k bounds) (read_all reads bounds (k + 1) ws)

-- the value that a word spells, which is the k-th word of its line, or the trouble with it
abbrev pub word_read : {T : Type 0} → (List ℕ → Option T) → Bounds → List ℕ → ℕ → Result T Trouble
word_read reads bounds w k = ok_or (reads w) (NotNumber k bounds)

-- an answer is what the definition says, unless there was not enough memory
abbrev pub Got : {V T : Type 0} → (V → T) → Result T Trouble → Result V Trouble → Type 0
Got model told r = MatchResult r (λ v. told ≡ Ok (model v)) (λ e. (e ≡ Memory) ⊎ (told ≡ Err e))
