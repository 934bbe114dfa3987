-- The queues that chains have.
use Rattle.std.specs.Prelude.{ℕ, List, map}
use Rattle.std.specs.List.{range_with_len}
use Rattle.buckets.specs.Nodes.{nexts}
use Rattle.buckets.specs.Ties.{row_of}
use Rattle.buckets.specs.declared.chains.Chains.{Chains}

-- the stations of the chain b, from the oldest on
abbrev pub row : Chains → ℕ → List ℕ
row c b = row_of (nexts c.nodes) b

-- those of all chains
unfoldable pub queues : Chains → List (List ℕ)
queues c = map (row c) (range_with_len 0 64)
