use Rattle.std.proofs.Common.{◌∙◌, arith, length-set}
use Rattle.walks.proofs.Marks.{counted_more, counted_room}
use Rattle.walks.proofs.branch.Branch.add.Goals as goal

pub bounds-queue-self : goal.bounds-queue-self
bounds-queue-self c =
    let s = c.args.self.now in
    omega (arith, s.counted, counted_room s.marks c.args.station (omega arith) 1024 c.requires.station c.requires.unmarked)

pub overflow_add-self : goal.overflow_add-self
overflow_add-self c =
    let s = c.args.self.now in
    omega (arith, s.counted, counted_room s.marks c.args.station (omega arith) 1024 c.requires.station c.requires.unmarked)

pub invariant_of-self : goal.invariant_of-self
invariant_of-self c =
    let s = c.args.self.now in
    let more = counted_more s.marks c.args.station (omega arith) 1024 c.requires.station c.requires.unmarked in
    record { room = length-set _ _ _ ∙ s.room; counted = omega (arith, s.counted, more) }
