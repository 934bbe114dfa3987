use Rattle.std.proofs.Common.{◌<◌, length, sym, ◌∙◌, arith}
use Rattle.lists.specs.Queues.{line_of}
use Rattle.lists.specs.Bests.{best-stops}
use Rattle.lists.proofs.threshold.acts.best_label.Goals as goal

pub returns-in_err-label : goal.returns-in_err-label
returns-in_err-label g c =
    let line = line_of c.args.queue.now in
    let within : c.loop-i.i < length line = omega (arith, c.loop-i-test.true, c.len-i-end.ensures.many) in
    c.from_residual.ensures ∙ sym (best-stops g.K.Kind c.args.labels.now c.loop-i.best line c.loop-i.i c.index.result within (c.index.ensures ∙ c.at.ensures) (sym c.handed.ensures ∙ c.in_err-label.was)) ∙ c.loop-i.invariant
