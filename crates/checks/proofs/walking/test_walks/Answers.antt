use Rattle.std.proofs.Common.{arith}
use Rattle.refusals.specs.declared.check.CheckFault.TheVariants as fault
use Rattle.checks.proofs.Faultless.{judged-first, judged-none}
use Rattle.checks.proofs.walking.test_walks.Goals as goal

pub returns-then-not-has : goal.returns-then-not-has
returns-then-not-has c =
    let home = c.branch-home.ensures.stations c.loop-station.station (omega arith) in
    judged-first fault.Walk _ _ (omega arith) (rw (← c.if-labelled.ensures, ← home, ← c.if-not-has.ensures)) c.loop-station.invariant

pub returns : goal.returns
returns c = judged-none fault.Walk _ _ (λ k below. c.loop-station.invariant k (omega arith))
