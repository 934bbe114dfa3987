use Rattle.std.proofs.Common.{arith}
use Rattle.book.proofs.Picks.{picked-none, picked-next, works-idle, works-spent}
use Rattle.book.proofs.work.work.Goals as goal

pub loop-made-init : goal.loop-made-init
loop-made-init g c = picked-none

pub loop-made-preserved : goal.loop-made-preserved
loop-made-preserved g c = picked-next _ _ _ _ c.in-Some.ensures c.in_ok-scan.ensures.plan c.in_ok-scan.ensures.list c.loop-made.invariant

pub returns-in_default : goal.returns-in_default
returns-in_default g c = works-idle _ _ _ (omega arith) (omega arith) c.in_default.ensures c.waiting.ensures c.loop-made.invariant

pub returns : goal.returns
returns g c = works-spent _ _ (omega arith) (omega arith) c.waiting-2.ensures c.loop-made.invariant
