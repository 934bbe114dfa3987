-- What a line comes to that is no comment.
use Rattle.std.proofs.Common.{◌≡◌, ℕ, ◌<◌, true, false, List, [], ◌∷◌, length, get_or, None, Some, Ok, Err, Option, Result, sym, refl, ap, ◌∙◌, subst, arith, Bor}
use lib.ListN.{get_or-map}
use Rattle.std.specs.List.{slice_get}
use Rattle.std.specs.Option.{ok_or}
use Rattle.answers.specs.declared.answer.Answer.{Answer}
use Rattle.answers.specs.declared.trouble.Trouble.{Trouble}
use Rattle.answers.specs.declared.trouble.Trouble.TheVariants.{Unknown}
use Rattle.answers.specs.declared.verb.Verb.{Verb}
use Rattle.answers.specs.Verbs.{verb_of}
use Rattle.script.specs.Words.{word_bytes}
use Rattle.site.specs.Model.{Model}
use Rattle.site.specs.Commands.{Commanded, Obeys, comment, as_line}

-- the first of some words, behind a reference
-- (nothing cites it today; the record of the move names it)
first_word : (words : List (Bor (List ℕ))) (d : Bor (List ℕ)) → d.now ≡ [] → get_or (word_bytes words) 0 [] ≡ (get_or words 0 d).now
first_word words d z = ap (get_or (word_bytes words) 0) (sym z) ∙ get_or-map (λ x. x.now) words 0 d

-- A line, by its words.
module _ (o : Option Model) where
  -- (nothing cites it today; the record of the move names it)
  passed_over : (ws : List (List ℕ)) → 0 < length ws → comment (get_or ws 0 []) ≡ true → Obeys o ws (Ok None) o
  passed_over [] h e = absurd (omega arith)
  passed_over (w ∷ ws) h e = rw e (refl, refl)

  carried-out : (words : List (Bor (List ℕ))) (w : Bor (List ℕ)) (v : Option Verb) (a : Result Answer Trouble) (p : Option Model) → Some w ≡ slice_get words 0
      → comment w.now ≡ false → v ≡ verb_of w.now → Commanded v o (word_bytes words) a p → Obeys o (word_bytes words) (as_line a) p
  carried-out [] w v a p e h is k = absurd (cc)
  carried-out (x ∷ ws) w v a p e h is k =
      let s : w ≡ x = cc in
      let g : comment x.now ≡ false = ap (λ y. comment y.now) (sym s) ∙ h in
      rw g (a, refl, subst (λ (u : Option Verb). Commanded u o (word_bytes (x ∷ ws)) a p) (is ∙ ap (λ y. verb_of y.now) s) k)

  -- the first word is no command
  pub obeys-unknown : (words : List (Bor (List ℕ))) (w : Bor (List ℕ)) (v : Option Verb) (e : Trouble) → Some w ≡ slice_get words 0 → comment w.now ≡ false
      → v ≡ verb_of w.now → ok_or v Unknown ≡ Err e → Obeys o (word_bytes words) (Err e) o
  obeys-unknown words w None e f h is k =
      let s : Unknown ≡ e = cc in
      subst (λ (x : Trouble). Obeys o (word_bytes words) (Err x) o) s (carried-out words w None (Err Unknown) o f h is (refl, refl))
  obeys-unknown words w (Some v) e f h is k = absurd (cc)

  -- it is a command
  pub obeys-command : (words : List (Bor (List ℕ))) (w : Bor (List ℕ)) (u : Option Verb) (v : Verb) (a : Result Answer Trouble) (p : Option Model) → Some w ≡ slice_get words 0
      → comment w.now ≡ false → u ≡ verb_of w.now → ok_or u Unknown ≡ Ok v → Commanded (Some v) o (word_bytes words) a p → Obeys o (word_bytes words) (as_line a) p
  obeys-command words w None v a p f h is e k = absurd (cc)
  obeys-command words w (Some u) v a p f h is e k = let s : Some v ≡ Some u = cc in carried-out words w (Some v) a p f h (s ∙ is) k
