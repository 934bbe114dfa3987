-- Cleared chains are empty, and their ghost fields hold.
use Rattle.std.proofs.Common.{refl, arith}
use Rattle.buckets.proofs.Fresh.{fresh-settled, fresh-within, fresh-counts}
use Rattle.buckets.proofs.chains.Chains.clear.Goals as goal

pub invariant_of-self : goal.invariant_of-self
invariant_of-self c =
    let w = fresh-settled _ _ c.close.ensures in
    record {
      sized = (omega arith, refl);
      ties = w.tied;
      once = w.once;
      homes = w.homes;
      within = fresh-within;
      counted = fresh-counts;
    }

pub returns : goal.returns
returns c = (fresh-settled _ _ c.close.ensures).are
