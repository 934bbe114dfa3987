use Rattle.std.proofs.Common.{false, refl, lit<, lit≤}
use Rattle.std.proofs.lemmas.List.{get_or-replicate}
use Rattle.lists.proofs.queue.Queue.clear.Goals as goal

pub invariant_of-self : goal.invariant_of-self
invariant_of-self c = record { fits = (c.args.self.now.fits.0, refl, lit< tt, lit≤ tt); once = refl; marks = λ k h. get_or-replicate 1024 k false false h }
