use Rattle.std.proofs.Common.{ℕ, Bool}
use Rattle.std.specs.List.{slice_get}
use Rattle.lists.specs.Thresholds.{queues_of}
use Rattle.lists.specs.Queues.{line_of}
use Rattle.lists.specs.Thresholds.{passes}
use Rattle.lists.specs.ThresholdsLemmas.{apart-parted, refilled-is}
use Rattle.lists.proofs.threshold.Threshold.refill.Goals as goal

pub invariant_of-self : goal.invariant_of-self
invariant_of-self g c =
    let p : ℕ → Bool = λ x. passes g.K.Kind c.loosened-limit.result (slice_get c.args.labels.now x) in
    record { apart = apart-parted p (line_of c.args.self.now.second) _ _ c.part.ensures.over c.part.ensures.left }

pub returns : goal.returns
returns g c =
    refilled-is g.K.Kind (queues_of c.args.self.now) c.args.labels.now c.loosened-limit.result (line_of c.part.new.first) (line_of c.part.new.second) c.unwrap_or-self.result
    c.loosened-limit.ensures c.part.ensures.over c.part.ensures.left c.unwrap_or-self.ensures
