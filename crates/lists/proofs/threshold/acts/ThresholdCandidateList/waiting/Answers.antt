use Rattle.std.proofs.Common.{◌+◌, sym, ap, ◌∙◌}
use Rattle.lists.specs.Meaning.{count_below}
use Rattle.lists.specs.Queues.{line_of}
use Rattle.lists.specs.Stations.{holds}
use Rattle.lists.specs.Counts.{count-either}
use Rattle.lists.proofs.threshold.acts.ThresholdCandidateList.waiting.Goals as goal

pub returns : goal.returns
returns g c =
    let xs = line_of c.args.self.now.first in
    let ys = line_of c.args.self.now.second in
    ap (λ n. n + c.len-2.result) c.len.ensures.counted ∙ ap (λ n. count_below (holds xs) 1024 + n) c.len-2.ensures.counted ∙ sym (count-either (holds xs) (holds ys) 1024 c.args.self.now.apart)
