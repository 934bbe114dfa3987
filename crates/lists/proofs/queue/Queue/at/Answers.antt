use Rattle.std.proofs.Common.{sym, ◌∙◌, arith}
use Rattle.lists.specs.Ring.{numbers_of}
use Rattle.lists.proofs.Queues.{length-line, index-at}
use Rattle.lists.proofs.Rings.{ring-at}
use Rattle.lists.proofs.queue.Queue.at.Goals as goal

pub returns : goal.returns
returns c =
    let q = c.args.self.now in
    index-at q _ c.index-self-self.result (omega arith) ∙ sym (ring-at (numbers_of q.ring) q.top q.len c.args.place q.fits.2 (omega (arith, c.requires, length-line q)))
