use Rattle.std.proofs.Common.{sym, ◌∙◌}
use Rattle.lists.specs.Counts.{count_same}
use Rattle.buckets.specs.ShelvedLemmas.{in-shelves}
use Rattle.buckets.proofs.shelves.Shelves.len.Goals as goal

pub returns : goal.returns
returns c = c.len.ensures ∙ count_same _ _ 1024 (λ k l. sym (in-shelves c.args.self.now k))
