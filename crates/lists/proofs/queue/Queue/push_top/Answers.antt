use Rattle.std.proofs.Common.{true, false, slice_index_or, set, ap, ◌∙◌, arith, length-set}
use Rattle.lists.proofs.Queues.{push-room, top-line, top-once, top-marks}
use Rattle.lists.proofs.queue.Queue.push_top.Goals as goal

pub invariant_of-self : goal.invariant_of-self
invariant_of-self c =
    let q = c.args.self.now in
    let s = c.args.station in
    record {
      fits = (length-set _ _ _ ∙ q.fits.0, length-set _ _ _ ∙ q.fits.1, omega arith, omega (arith, push-room q s c.requires));
      once = top-once q s c.requires;
      marks = λ k l. ap (λ n. slice_index_or (set q.held n true) k false) c.index.ensures ∙ top-marks q s c.requires k l;
    }

pub returns : goal.returns
returns c = top-line c.args.self.now c.args.station c.requires
