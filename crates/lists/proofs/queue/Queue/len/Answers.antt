use Rattle.std.proofs.Common.{sym, ◌∙◌}
use Rattle.lists.specs.Queues.{line_of}
use Rattle.lists.specs.StationsLemmas.{count-holds}
use Rattle.lists.proofs.Queues.{length-line}
use Rattle.lists.proofs.queue.Queue.len.Goals as goal

pub returns : goal.returns
returns c =
    let q = c.args.self.now in
    record { many = sym (length-line q); few = q.fits.3; counted = sym (count-holds (line_of q) q.once ∙ length-line q) }
