use Rattle.std.proofs.Common.{sym}
use Rattle.lists.specs.Queues.{line_of}
use Rattle.lists.specs.ThresholdsLemmas.{apart-first, apart-second}
use Rattle.lists.proofs.threshold.acts.ThresholdCandidateList.enter.Goals as goal

pub invariant_of-self : goal.invariant_of-self
invariant_of-self g c =
    let s = c.args.self.now in
    record { apart = apart-first (line_of s.first) (line_of s.second) s.apart c.in_ok-station.station.index (sym c.if-has-2.ensures) _ c.push_bottom.ensures }

pub invariant_of-self-else-passing : goal.invariant_of-self-else-passing
invariant_of-self-else-passing g c =
    let s = c.args.self.now in
    record { apart = apart-second (line_of s.first) (line_of s.second) s.apart c.in_ok-station.station.index (sym c.if-has.ensures) _ c.push_bottom-else-passing.ensures }
