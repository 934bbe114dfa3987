use Rattle.std.proofs.Common.{sym}
use Rattle.buckets.specs.ShelvedLemmas.{rows-many}
use Rattle.buckets.proofs.shelves.Shelves.count.Goals as goal

pub returns : goal.returns
returns c = sym (rows-many c.args.self.now)
