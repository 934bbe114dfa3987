-- The ends before this one are tied to themselves.
use Rattle.std.proofs.Common.{◌≡◌, ℕ, ◌<◌, ◌≤◌, slice_index}
use Rattle.buckets.specs.Nodes.{nexts, prevs}
use Rattle.buckets.proofs.chains.acts.close.Given as goal

abbrev pub invariant-loop-end : goal.invariant-loop-end
invariant-loop-end l = (k : ℕ) → 1024 ≤ k → k < l.end → (slice_index (nexts l.nodes) k ≡ k) × (slice_index (prevs l.nodes) k ≡ k)
