-- The parts of a line between its blanks, without the empty ones, are its words.
use Rattle.std.proofs.Common.{◌≡◌, ℕ, Bool, true, false, not, eqb, List, [], ◌∷◌, ◌++◌, length, refl, ap, sym, ◌∙◌, inl, inr, append_assoc, append-nil, arith, ◌+◌, ◌-◌, ◌<◌, ◌≤◌, get_or, take, drop, length-drop, get_or-drop}
use Rattle.std.proofs.lemmas.Bool.{cases_Bool}
use Rattle.std.proofs.lemmas.List.{take_more, drop_more, drop_all}
use Rattle.std.specs.List.{filter, slice_split, onto_first}
use Rattle.script.specs.Words.{blank, ended, words_from, words_of}

abbrev pub some : List ℕ → Bool
some w = not (eqb (length w) 0)

-- the word under way goes on into the first part
abbrev onto : List ℕ → List (List ℕ) → List (List ℕ)
onto w [] = w ∷ []
onto w (part ∷ parts) = (w ++ part) ∷ parts

onto-none : (line : List ℕ) → onto [] (slice_split blank line) ≡ slice_split blank line
onto-none [] = refl
onto-none (b ∷ bs) =
    elim (cases_Bool (blank b)) [
      | inl t ↦ rw t refl
      | inr f ↦ rw f (onto-first b (slice_split blank bs))
    ] where
      onto-first : (b : ℕ) (ps : List (List ℕ)) → onto [] (onto_first b ps) ≡ onto_first b ps
      onto-first b [] = refl
      onto-first b (part ∷ parts) = refl

onto-one : (w : List ℕ) (b : ℕ) (ps : List (List ℕ)) → onto (w ++ b ∷ []) ps ≡ onto w (onto_first b ps)
onto-one w b [] = refl
onto-one w b (part ∷ parts) = ap (λ u. u ∷ parts) (append_assoc w (b ∷ []) part)

ended-kept : (w : List ℕ) (ws : List (List ℕ)) → ended w (filter some ws) ≡ filter some (w ∷ ws)
ended-kept [] ws = refl
ended-kept (b ∷ bs) ws = let e : some (b ∷ bs) ≡ true = grind arith in rw e refl

parted : (w line : List ℕ) → words_from w line ≡ filter some (onto w (slice_split blank line))
parted w [] = ended-kept w [] ∙ ap (λ u. filter some (u ∷ [])) (sym (append-nil w))
parted w (b ∷ bs) =
    elim (cases_Bool (blank b)) [
      | inl t ↦ rw t (ap (ended w) (parted [] bs ∙ ap (filter some) (onto-none bs)) ∙ ended-kept w (slice_split blank bs) ∙ ap (λ u. filter some (u ∷ slice_split blank bs)) (sym (append-nil w)))
      | inr f ↦ rw f (parted (w ++ b ∷ []) bs ∙ ap (filter some) (onto-one w b (slice_split blank bs)))
    ]

-- (nothing cites it, since the words are parted by a loop)
pub parted_words : (line : List ℕ) → words_of line ≡ filter some (slice_split blank line)
parted_words line = parted [] line ∙ ap (filter some) (onto-none line)

-- the bytes of a line from one place up to another
abbrev pub under : List ℕ → ℕ → ℕ → List ℕ
under line from i = take (i - from) (drop from line)

-- they are one more with the byte at the end
pub under_more : (line : List ℕ) (from i : ℕ) → from ≤ i → i < length line → under line from (i + 1) ≡ under line from i ++ get_or line i 0 ∷ []
under_more line from i h l =
    let e : i + 1 - from ≡ i - from + 1 = omega arith in
    let k : i - from < length (drop from line) = simp length-drop (omega arith) in
    let d : from + (i - from) ≡ i = omega arith in
    ap (λ n. take n (drop from line)) e ∙ take_more (drop from line) (i - from) 0 k
    ∙ ap (λ b. under line from i ++ b ∷ []) (get_or-drop from line (i - from) 0 ∙ ap (λ n. get_or line n 0) d)

pub ended_some : (w : List ℕ) → 0 < length w → ended w [] ≡ w ∷ []
ended_some [] h = absurd (omega arith)
ended_some (b ∷ bs) h = refl

ended-before : (w : List ℕ) (ws : List (List ℕ)) → ended w ws ≡ ended w [] ++ ws
ended-before [] ws = refl
ended-before (b ∷ bs) ws = refl

module _ (line : List ℕ) (from i : ℕ) (h : from ≤ i) where
  -- a blank ends the word under way
  pub parted-blank : i < length line → blank (get_or line i 0) ≡ true
      → words_from (under line from i) (drop i line) ≡ ended (under line from i) [] ++ words_from (under line (i + 1) (i + 1)) (drop (i + 1) line)
  parted-blank l e =
      let z : i + 1 - (i + 1) ≡ 0 = omega arith in
      rw (drop_more line i 0 l, e, z) (ended-before (under line from i) (words_from [] (drop (i + 1) line)))

  -- any other byte goes on with it
  pub parted-other : i < length line → blank (get_or line i 0) ≡ false
      → words_from (under line from i) (drop i line) ≡ words_from (under line from (i + 1)) (drop (i + 1) line)
  parted-other l e = rw (drop_more line i 0 l, e, under_more line from i h l)

  -- and so does the end of the line
  pub parted-end : i ≡ length line → words_from (under line from i) (drop i line) ≡ ended (under line from i) []
  parted-end e = ap (words_from (under line from i)) (drop_all i line (omega arith))
