-- Where the `/` of a `net` line stands, and what the line then reads as.
use Rattle.std.proofs.Common.{◌≡◌, ℕ, suc, ◌+◌, ◌<◌, Bool, true, false, ltb, cond, List, [], ◌∷◌, length, take, drop, ◌⊎◌, Some, None, Option, Ok, Err, codes, Result, sym, ap, ◌∙◌, refl, arith, take_all, Bor}
use lib.ListN.{length-map}
use Rattle.std.proofs.lemmas.List.{take-map}
use Rattle.std.proofs.lemmas.Bool.{lt-ltb, ltb-true, ltb-false}
use Rattle.std.specs.List.{prefix_len, position}
use Rattle.std.specs.Option.{option_map, unwrap_or, SomeIff}
use Rattle.std.specs.Str.{bytes_eq}
use Rattle.answers.specs.declared.trouble.Bounds.{Bounds}
use Rattle.answers.specs.declared.trouble.Trouble.{Trouble}
use Rattle.answers.specs.declared.trouble.Trouble.TheVariants.{Memory}
use Rattle.reading.specs.Nets.{no_slash, slash_at, net_read, with_starts, with_heads}
use Rattle.script.specs.Words.{word_bytes}
use Rattle.reading.specs.Reading.{read_all, Got}
use Rattle.reading.specs.Spelling.{short_read}

-- the words before the first `/`, behind their references
before : (ws : List (Bor (List ℕ))) → prefix_len no_slash (word_bytes ws) ≡ prefix_len (λ w. no_slash w.now) ws
before [] = refl
before (w ∷ ws) = rw (before ws)

one_later : (n m : ℕ) (b : Bool) → ltb n m ≡ b → SomeIff (option_map (λ i. i + 1) (cond b (Some n) None)) (1 + n < suc m) (1 + n)
one_later n m true h = (omega (arith, ltb-true n m h), omega arith)
one_later n m false h = λ k. omega (arith, ltb-false n m h)

-- the index of the first `/` after the first word
pub found : (ws : List (Bor (List ℕ)))
    → SomeIff (option_map (λ i. i + 1) (position (λ w. bytes_eq w.now (codes "/")) (drop 1 ws))) (slash_at (word_bytes ws) < length ws) (slash_at (word_bytes ws))
found [] = λ k. omega arith
found (w ∷ ws) = rw (before ws) (one_later _ (length ws) _ refl)

-- the words up to the `/` that was found, or all
module _ (words : List (Bor (List ℕ))) (o : Option ℕ) (s : SomeIff o (slash_at (word_bytes words) < length words) (slash_at (word_bytes words))) where
  cut : (p : Option ℕ) → o ≡ p → take (unwrap_or p (length words)) (word_bytes words) ≡ take (slash_at (word_bytes words)) (word_bytes words)
  cut None e =
      let h : SomeIff None (slash_at (word_bytes words) < length words) (slash_at (word_bytes words)) = rw e at s in
      let l = length-map words (λ x. x.now) in
      take_all (length words) (word_bytes words) (omega arith) ∙ sym (take_all (slash_at (word_bytes words)) (word_bytes words) (omega (arith, h)))
  cut (Some i) e =
      let h : SomeIff (Some i) (slash_at (word_bytes words) < length words) (slash_at (word_bytes words)) = rw e at s in
      ap (λ n. take n (word_bytes words)) h.1

  module _ (n : ℕ) (is : n ≡ unwrap_or o (length words)) where
    -- the starts stand before it
    pub started : (r : Result (List ℕ) Trouble) → read_all short_read Bounds.Short 2 (drop 1 (word_bytes (take n words))) ≡ r
        → net_read (word_bytes words) ≡ with_starts (word_bytes words) (slash_at (word_bytes words)) r
    started r read =
        let t : word_bytes (take n words) ≡ take (slash_at (word_bytes words)) (word_bytes words) =
        sym (take-map (λ x. x.now) n words) ∙ ap (λ j. take j (word_bytes words)) is ∙ cut o refl in
        ap (λ ws. with_starts (word_bytes words) (slash_at (word_bytes words)) (read_all short_read Bounds.Short 2 (drop 1 ws))) (sym t)
        ∙ ap (with_starts (word_bytes words) (slash_at (word_bytes words))) read

    -- the rest are the heads
    pub headed : (starts : List ℕ) → read_all short_read Bounds.Short 2 (drop 1 (word_bytes (take n words))) ≡ Ok starts → (at : ℕ) (r : Result (List ℕ) Trouble) → o ≡ Some at
        → read_all short_read Bounds.Short (at + 1 + 1) (drop (at + 1) (word_bytes words)) ≡ r → net_read (word_bytes words) ≡ with_heads starts r
    headed starts read at r e k =
        let h : SomeIff (Some at) (slash_at (word_bytes words) < length words) (slash_at (word_bytes words)) = rw e at s in
        let t : ltb (slash_at (word_bytes words)) (length (word_bytes words)) ≡ true = lt-ltb _ _ (omega (arith, h.0, length-map words (λ x. x.now))) in
        started (Ok starts) read
        ∙ rw t (ap (λ j. with_heads starts (read_all short_read Bounds.Short (j + 1 + 1) (drop (j + 1) (word_bytes words)))) (sym h.1) ∙ ap (with_heads starts) k)

-- a result that is an error
pub failed : {V T : Type 0} (model : V → T) (told : Result T Trouble) (r : Result V Trouble) (e : Trouble) → r ≡ Err e → (e ≡ Memory) ⊎ (told ≡ Err e) → Got model told r
failed model told r e h d = rw h d
