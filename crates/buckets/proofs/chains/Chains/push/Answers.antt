-- A push stays within the arrays, keeps the ghost fields, and gives the rows that it ensures.
use Rattle.std.proofs.Common.{is_some, None, slice_index_or, ◌∙◌, arith, length-set}
use Rattle.lists.specs.Counts.{count_most}
use Rattle.buckets.proofs.Pushes.{last-below-of, push-settled, push-rows, push-within, push-counts}
use Rattle.buckets.proofs.chains.Chains.push.Goals as goal

pub bounds-self-last : goal.bounds-self-last
bounds-self-last c = last-below-of c.args.self.now c.args.b _ c.requires.bound c.args.station c.index-node.ensures c.requires.gone

pub overflow_add-self : goal.overflow_add-self
overflow_add-self c = let s = c.args.self.now in omega (arith, s.counted, count_most (λ k. is_some (slice_index_or s.home k None)) 1024)

pub invariant_of-self : goal.invariant_of-self
invariant_of-self c =
    let s = c.args.self.now in
    let w = push-settled s c.args.b _ c.requires.bound c.args.station c.index-node.ensures c.requires.gone in
    record {
      sized = (length-set _ _ _ ∙ length-set _ _ _ ∙ length-set _ _ _ ∙ s.sized.0, length-set _ _ _ ∙ s.sized.1);
      ties = w.tied;
      once = w.once;
      homes = w.homes;
      within = push-within s c.args.b _ c.requires.bound c.args.station c.index-node.ensures c.requires.gone;
      counted = omega (arith, s.counted, push-counts s c.args.b _ c.requires.bound c.args.station c.index-node.ensures c.requires.gone);
    }

pub returns : goal.returns
returns c = push-rows c.args.self.now c.args.b _ c.requires.bound c.args.station c.index-node.ensures c.requires.gone
