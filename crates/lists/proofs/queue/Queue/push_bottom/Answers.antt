use Rattle.std.proofs.Common.{true, false, slice_index_or, set, ap, ◌∙◌, arith, length-set}
use Rattle.lists.proofs.Queues.{push-room, bottom-line, bottom-once, bottom-marks}
use Rattle.lists.proofs.queue.Queue.push_bottom.Goals as goal

pub invariant_of-self : goal.invariant_of-self
invariant_of-self c =
    let q = c.args.self.now in
    let s = c.args.station in
    record {
      fits = (length-set _ _ _ ∙ q.fits.0, length-set _ _ _ ∙ q.fits.1, q.fits.2, omega (arith, push-room q s c.requires));
      once = bottom-once q s c.requires;
      marks = λ k l. ap (λ n. slice_index_or (set q.held n true) k false) c.index.ensures ∙ bottom-marks q s c.requires k l;
    }

pub returns : goal.returns
returns c = bottom-line c.args.self.now c.args.station c.requires
