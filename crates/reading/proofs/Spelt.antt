-- Reading words one by one gives what they spell.
use Rattle.std.proofs.Common.{◌≡◌, ℕ, ◌+◌, ◌<◌, ◌≤◌, List, [], ◌∷◌, ◌++◌, length, get_or, take, drop, Some, None, Ok, Err, Option, Result, MatchResult, sym, refl, ap, ◌∙◌, append_assoc, arith, length-take, length-drop, get_or-take, get_or-drop, Bor}
use lib.ListN.{length-map, get_or-map}
use Rattle.std.proofs.lemmas.List.{drop_more, get_or_default}
use Rattle.std.proofs.lemmas.List.FromFn.{length-enumerate_from, get_or-enumerate_from}
use Rattle.std.proofs.lemmas.Iterator.{YieldsList}
use Rattle.std.proofs.lemmas.Iterator.Consumers.{YieldsList-turn}
use Rattle.std.specs.Iterator.{Yields}
use Rattle.std.specs.List.{enumerate_from}
use Rattle.std.specs.Option.{ok_or}
use Rattle.answers.specs.declared.trouble.Bounds.{Bounds}
use Rattle.answers.specs.declared.trouble.Trouble.{Trouble}
use Rattle.answers.specs.declared.trouble.Trouble.TheVariants.{NotNumber}
use Rattle.script.specs.Words.{word_bytes}
use Rattle.reading.specs.Reading.{read_more, read_all, word_read}

-- values that were read, before what comes of the words that are left
abbrev pub after : {T : Type 0} → List T → Result (List T) Trouble → Result (List T) Trouble
after xs (Ok ys) = Ok (xs ++ ys)
after xs (Err e) = Err e

after_one : {T : Type 0} (xs : List T) (x : T) (e : Trouble) (r : Result (List T) Trouble) → after xs (read_more (Some x) e r) ≡ after (xs ++ x ∷ []) r
after_one xs x e (Ok ys) = ap Ok (sym (append_assoc xs (x ∷ []) ys))
after_one xs x e (Err f) = refl

module _ {T : Type 0} (reads : List ℕ → Option T) (bounds : Bounds) (ws : List (List ℕ)) (i : ℕ) (xs : List T) where
  -- the word at i spells x
  pub read_one : (x : T) → i < length ws → Some x ≡ reads (get_or ws i [])
      → after xs (read_all reads bounds (i + 1) (drop i ws)) ≡ after (xs ++ x ∷ []) (read_all reads bounds (i + 1 + 1) (drop (i + 1) ws))
  read_one x h e = rw (drop_more ws i [] h, ← e) (after_one xs x (NotNumber (i + 1) bounds) (read_all reads bounds (i + 1 + 1) (drop (i + 1) ws)))

  -- it spells nothing
  pub read_none : i < length ws → None ≡ reads (get_or ws i []) → after xs (read_all reads bounds (i + 1) (drop i ws)) ≡ Err (NotNumber (i + 1) bounds)
  read_none h e = rw (drop_more ws i [] h, ← e)

-- a word behind a reference
-- (nothing cites it today; the record of the move names it)
pub word_at : (refs : List (Bor (List ℕ))) (d : Bor (List ℕ)) (to i : ℕ) → i < to → (get_or refs i d).now ≡ get_or (take to (word_bytes refs)) i d.now
word_at refs d to i h = sym (get_or-take to (word_bytes refs) i d.now h ∙ get_or-map (λ x. x.now) refs i d)

-- (nothing cites it today; the record of the move names it)
pub words_long : (refs : List (Bor (List ℕ))) (to : ℕ) → to ≤ length refs → length (take to (word_bytes refs)) ≡ to
words_long refs to h = simp (length-take, length-map) (omega arith)

-- the word at index i gives one value more, or ends the reading
one_more : {T : Type 0} (reads : List ℕ → Option T) (bounds : Bounds) (ws : List (List ℕ)) (i : ℕ) (xs : List T) (o : Option T) → i < length ws → o ≡ reads (get_or ws i [])
    → MatchResult (ok_or o (NotNumber (i + 1) bounds)) (λ x. after xs (read_all reads bounds (i + 1) (drop i ws)) ≡ after (xs ++ x ∷ []) (read_all reads bounds (i + 1 + 1) (drop (i + 1) ws)))
    (λ e. after xs (read_all reads bounds (i + 1) (drop i ws)) ≡ Err e)
one_more reads bounds ws i xs None h e = read_none reads bounds ws i xs h e
one_more reads bounds ws i xs (Some x) h e = read_one reads bounds ws i xs x h e

-- the same of one turn of a loop over the words from an index on, each with its index: what the reading comes to after the words that it has yielded, it comes to after one more
pub turn : {S T : Type 0} {steps : S → Option (ℕ × Bor (Bor (List ℕ))) → S → Type 0} {s t u : S} {o : Option (ℕ × Bor (Bor (List ℕ)))} {x : ℕ × Bor (Bor (List ℕ))} {r : Result T Trouble} {whole : Result (List T) Trouble}
    (reads : List ℕ → Option T) (bounds : Bounds) (words : List (Bor (List ℕ))) (from : ℕ) (yielded : List (ℕ × Bor (Bor (List ℕ)))) (xs : List T)
    → YieldsList {B = ℕ × Bor (List ℕ)} steps (λ p. (p.0, p.1.now)) s (drop from (enumerate_from 0 words)) → Yields steps s yielded t → o ≡ Some x → steps t o u → r ≡ word_read reads bounds x.1.now.now (x.0 + 1)
    → let i = from + length yielded in whole ≡ after xs (read_all reads bounds (i + 1) (drop i (word_bytes words)))
    → MatchResult r (λ y. whole ≡ after (xs ++ y ∷ []) (read_all reads bounds (i + 1 + 1) (drop (i + 1) (word_bytes words)))) (λ e. whole ≡ Err e)
turn {x = x} reads bounds words from yielded xs road y is p v so_far =
    let n = length yielded in
    let e = YieldsList-turn road yielded _ y _ _ x is p in
    let here : from + n < length words = omega (arith, e.0, length-drop from (enumerate_from 0 words), length-enumerate_from 0 words) in
    let at : ◌≡◌ {A = ℕ × Bor (List ℕ)} (x.0, x.1.now) (0 + (from + n), get_or words (from + n) x.1.now) = e.1 ∙ get_or-drop from (enumerate_from 0 words) n (x.0, x.1.now) ∙ get_or-enumerate_from 0 words (from + n) (x.0, x.1.now) here in
    let i : x.0 ≡ from + n = ap (λ (q : ℕ × Bor (List ℕ)). q.0) at ∙ omega arith in
    let there : from + n < length (word_bytes words) = omega (arith, here, length-map words (λ x. x.now)) in
    let w : x.1.now.now ≡ get_or (word_bytes words) (from + n) [] =
    ap (λ p. p.1.now) at ∙ sym (get_or-map (λ x. x.now) words (from + n) x.1.now) ∙ get_or_default (word_bytes words) (from + n) x.1.now.now [] there in
    rw (so_far, v ∙ ap (λ j. word_read reads bounds x.1.now.now (j + 1)) i) (one_more reads bounds (word_bytes words) (from + n) xs (reads x.1.now.now) there (ap reads w))
