use Rattle.std.proofs.Common.{◌≡◌, ◌+◌, [], ◌++◌, map, length, drop, vec_items, sym, ap, ◌∙◌, append_assoc, arith}
use Rattle.script.specs.Words.{ended, words_from}
use Rattle.script.proofs.Parting.{under, parted-blank, parted-other, parted-end}
use Rattle.script.proofs.words.words.Goals as goal
use Rattle.script.proofs.words.words.Goals.{then-is_blank+in_ok-keep, else-is_blank}

pub loop-i-preserved : goal.loop-i-preserved
loop-i-preserved c =
    let line = c.args.line.now in
    let i = c.loop-i.i in
    let from = c.loop-i.from in
    let had = map (λ x. x.now) (vec_items c.loop-i.out) in
    elim c.if-is_blank.branch [
      | then-is_blank+in_ok-keep w ↦
          let left = words_from (under line (i + 1) (i + 1)) (drop (i + 1) line) in
          let e = c.loop-i.invariant.1
          ∙ ap (λ ws. had ++ ws) (parted-blank line from i (omega arith) (omega arith) (sym w.if-is_blank.ensures))
          ∙ sym (append_assoc had (ended (under line from i) []) left)
          ∙ ap (λ ws. ws ++ left) (sym w.in_ok-keep.ensures) in
          simp (w.out-is, w.from-is) (omega arith, e)
      | else-is_blank w ↦
          let e = c.loop-i.invariant.1
          ∙ ap (λ ws. had ++ ws) (parted-other line from i (omega arith) (omega arith) (sym w.if-is_blank.ensures)) in
          simp (w.out-is, w.from-is) (omega arith, e)
    ]

pub returns : goal.returns
returns c =
    let line = c.args.line.now in
    let had = map (λ x. x.now) (vec_items c.loop-i.out) in
    let end : length line ≡ c.loop-i.i = omega arith in
    c.in_ok-keep-2.ensures
    ∙ ap (λ n. had ++ ended (under line c.loop-i.from n) []) end
    ∙ sym (c.loop-i.invariant.1 ∙ ap (λ ws. had ++ ws) (parted-end line c.loop-i.from c.loop-i.i (omega arith) (sym end)))
