-- The text of values that stand in a row.
use Rattle.std.specs.Prelude.{ℕ, List, [], ◌∷◌, ◌++◌, Some, codes, Option}
use Rattle.std.specs.Fmt.{◌++?◌}

-- each value after a blank, or nothing known where the text of one is not
abbrev pub spaced_items : {T : Type 0} → (T → Option (List ℕ)) → List T → Option (List ℕ)
spaced_items text [] = Some []
spaced_items text (x ∷ xs) = Some (codes " ") ++? text x ++? spaced_items text xs

-- each value after a blank
abbrev pub spaced : {T : Type 0} → (T → List ℕ) → List T → List ℕ
spaced text [] = []
spaced text (x ∷ xs) = codes " " ++ (text x ++ spaced text xs)
