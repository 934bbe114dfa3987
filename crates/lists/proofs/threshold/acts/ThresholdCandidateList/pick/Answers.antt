use Rattle.std.proofs.Common.{sym, ◌∙◌}
use Rattle.std.proofs.lemmas.List.{nil_from_length}
use Rattle.lists.specs.Queues.{line_of}
use Rattle.lists.proofs.threshold.acts.ThresholdCandidateList.pick.Goals as goal

pub refill-requires : goal.refill-requires
refill-requires g c = nil_from_length (line_of c.args.self.now.first) (sym c.len.ensures.many ∙ c.if-len-eq0.true)
