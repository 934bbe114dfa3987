-- An unlink stays within the arrays, keeps the ghost fields, and gives the rows that it ensures.
use Rattle.std.proofs.Common.{◌∙◌, arith, length-set}
use Rattle.buckets.proofs.Unlinks.{prev-below, next-below, unlink-settled, unlink-rows, unlink-within, unlink-counts}
use Rattle.buckets.proofs.chains.Chains.unlink.Goals as goal

pub bounds-self-prev : goal.bounds-self-prev
bounds-self-prev c = prev-below c.args.self.now _ c.args.station c.index-node.ensures c.requires

pub bounds-self-next : goal.bounds-self-next
bounds-self-next c = next-below c.args.self.now _ c.args.station c.index-node.ensures c.requires

pub overflow_sub-self : goal.overflow_sub-self
overflow_sub-self c = let s = c.args.self.now in omega (arith, s.counted, unlink-counts s _ c.args.station c.index-node.ensures c.requires)

pub invariant_of-self : goal.invariant_of-self
invariant_of-self c =
    let s = c.args.self.now in
    let w = unlink-settled s _ c.args.station c.index-node.ensures c.requires in
    record {
      sized = (length-set _ _ _ ∙ length-set _ _ _ ∙ s.sized.0, length-set _ _ _ ∙ s.sized.1);
      ties = w.tied;
      once = w.once;
      homes = w.homes;
      within = unlink-within s _ c.args.station c.index-node.ensures c.requires;
      counted = omega (arith, s.counted, unlink-counts s _ c.args.station c.index-node.ensures c.requires);
    }

pub returns : goal.returns
returns c = unlink-rows c.args.self.now _ c.args.station c.index-node.ensures c.requires
