-- The length is the number of stations in chains.
use Rattle.buckets.specs.LinksLemmas.{len-counts}
use Rattle.buckets.proofs.chains.Chains.len.Goals as goal

pub returns : goal.returns
returns c = len-counts c.args.self.now
