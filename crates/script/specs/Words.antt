-- The words of a line.
use Rattle.std.specs.Prelude.{ℕ, Bool, if◌then◌else◌, ◌||◌, List, [], ◌∷◌, ◌++◌, ◌==◌, map}
use Rattle.std.specs.Borrow.{Bor}

-- what words behind references spell
abbrev pub word_bytes : List (Bor (List ℕ)) → List (List ℕ)
word_bytes words = map (λ word. word.now) words

-- a tab, a carriage return or a space
abbrev pub blank : ℕ → Bool
blank b = b == 9 || (b == 13 || b == 32)

-- a word that has ended, unless it is empty, before those that follow
abbrev pub ended : List ℕ → List (List ℕ) → List (List ℕ)
ended [] ws = ws
ended (b ∷ bs) ws = (b ∷ bs) ∷ ws

-- the words of what is left of a line, where w is the word under way
abbrev pub words_from : List ℕ → List ℕ → List (List ℕ)
words_from w [] = ended w []
words_from w (b ∷ bs) = if blank b then ended w (words_from [] bs) else words_from (w ++ b ∷ []) bs

abbrev pub words_of : List ℕ → List (List ℕ)
words_of line = words_from [] line
