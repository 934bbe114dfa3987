-- The home of a station is the one chain that holds it.
use Rattle.std.proofs.Common.{None, slice_index_or, sym, ap}
use Rattle.buckets.specs.LinksLemmas.{home-is}
use Rattle.buckets.proofs.chains.Chains.home.Goals as goal

pub returns : goal.returns
returns c = let s = c.args.self.now in home-is s c.args.station.index _ (ap (λ n. slice_index_or s.home n None) (sym c.index.ensures))
