use Rattle.std.proofs.Common.{arith}
use Rattle.std.proofs.lemmas.Bool.{ne_eqb}
use Rattle.refusals.specs.declared.check.CheckFault.TheVariants as fault
use Rattle.net.proofs.Tails.{star_of}
use Rattle.checks.proofs.Faultless.{judged-first, judged-none}
use Rattle.checks.proofs.Handing.{before-within}
use Rattle.checks.proofs.entries.test_entries.Goals as goal

pub handed_by-requires-clause-tail : goal.handed_by-requires-clause-tail
handed_by-requires-clause-tail g c =
    simp (c.requires.labels, c.requires.grades) (before-within (star_of c.args.net.now) c.args.entries.now c.loop-station.station _ (c.all_before-tails.ensures c.loop-station.station))

pub returns-then-not-handed_by : goal.returns-then-not-handed_by
returns-then-not-handed_by g c =
    let other = ne_eqb c.loop-station.station c.args.gateway c.if-station-gateway.false in
    judged-first fault.Entry _ _ (omega arith) (rw (← c.if-not-labelled.ensures, other, ← c.all_before-tails.ensures c.loop-station.station, ← c.if-not-handed_by.ensures)) c.loop-station.invariant

pub returns : goal.returns
returns g c = judged-none fault.Entry _ _ (λ k below. c.loop-station.invariant k (omega arith))
