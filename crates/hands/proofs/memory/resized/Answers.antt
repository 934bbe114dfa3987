use Rattle.std.proofs.Common.{◌≡◌, ℕ, ◌+◌, ◌-◌, List, [], ◌∷◌, ◌++◌, length, get_or, sym, ap, ◌∙◌, inl, inr, add-one, arith, append-nil, append_assoc, rules}
use Rattle.std.proofs.Math.Seq.{take-suc}
use Rattle.std.proofs.lemmas.Bool.{cases_lt}
use Rattle.std.proofs.lemmas.List.{take_all, get_or_past, replicate_more}
use Rattle.hands.specs.Acts.{resized}
use Rattle.hands.proofs.memory.resized.Goals as goal

-- one element more
resized-more : {A : Type 0} (n : ℕ) (x : A) (xs : List A) → resized (n + 1) x xs ≡ resized n x xs ++ get_or xs n x ∷ []
resized-more n x xs =
    elim (cases_lt n (length xs)) [
      | inl h ↦
          let none : n - length xs ≡ 0 = omega arith in
          let still : n + 1 - length xs ≡ 0 = omega arith in
          let more = take-suc xs n x h in
          rw (none, still, add-one, more, append-nil, append-nil)
      | inr h ↦
          let more : n + 1 - length xs ≡ n - length xs + 1 = omega arith in
          rw (take_all (n + 1) xs (omega arith), take_all n xs h, more, ← replicate_more, get_or_past xs n x h)
          (sym (append_assoc xs _ _))
    ]

pub loop-i-preserved : goal.loop-i-preserved
loop-i-preserved g c =
    c.in_ok-push.ensures.items ∙ ap (λ xs. xs ++ c.unwrap_or.result ∷ []) c.loop-i.invariant
    ∙ ap (λ y. resized c.loop-i.i c.args.x c.args.old.now ++ y ∷ []) (search rules) ∙ sym (resized-more c.loop-i.i c.args.x c.args.old.now)
