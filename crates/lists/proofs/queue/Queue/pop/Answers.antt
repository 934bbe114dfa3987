use Rattle.std.proofs.Common.{◌<◌, false, set, slice_index_or, ap, ◌∙◌, arith, length-set}
use Rattle.lists.proofs.Queues.{pop-once, pop-marks}
use Rattle.lists.proofs.queue.Queue.pop.Goals as goal

pub invariant_of-self : goal.invariant_of-self
invariant_of-self c =
    let q = c.args.self.now in
    let d = c.index-self-self.result in
    let some : 0 < q.len = omega (arith, c.if-self-eq0.false) in
    record {
      fits = (q.fits.0, length-set _ _ _ ∙ q.fits.1, omega arith, omega arith);
      once = pop-once q some d;
      marks = λ k l. ap (λ n. slice_index_or (set q.held n false) k false) c.index.ensures ∙ pop-marks q some d k l;
    }
