-- The words of a line of so many, one by one: what they ask for is defined by patterns on them.
use Rattle.std.proofs.Common.{◌≡◌, ℕ, ◌≤◌, List, [], ◌∷◌, length, get_or, drop, Bor, refl, arith}

-- what stands for a word beyond the last
abbrev pub no_word : Bor (List ℕ)
no_word = record { ref_ptr = (0, 0); now = [] }

pub two_up : (ws : List (Bor (List ℕ))) → 2 ≤ length ws → ws ≡ get_or ws 0 no_word ∷ get_or ws 1 no_word ∷ drop 2 ws
two_up (c ∷ w ∷ ws) h = refl
two_up _ h = absurd (omega arith)

pub two : (ws : List (Bor (List ℕ))) → length ws ≡ 2 → ws ≡ get_or ws 0 no_word ∷ get_or ws 1 no_word ∷ []
two (c ∷ w ∷ []) h = refl
two _ h = absurd (omega arith)

pub three : (ws : List (Bor (List ℕ))) → length ws ≡ 3 → ws ≡ get_or ws 0 no_word ∷ get_or ws 1 no_word ∷ get_or ws 2 no_word ∷ []
three (c ∷ v ∷ w ∷ []) h = refl
three _ h = absurd (omega arith)

pub four : (ws : List (Bor (List ℕ))) → length ws ≡ 4 → ws ≡ get_or ws 0 no_word ∷ get_or ws 1 no_word ∷ get_or ws 2 no_word ∷ get_or ws 3 no_word ∷ []
four (c ∷ u ∷ v ∷ w ∷ []) h = refl
four _ h = absurd (omega arith)
