-- The links of nodes, either way.
use Rattle.std.specs.Prelude.{ℕ, List, map}
use Rattle.buckets.specs.declared.node.Node.{Node}

abbrev pub nexts : List Node → List ℕ
nexts nodes = map (λ (n : Node). n.next) nodes

abbrev pub prevs : List Node → List ℕ
prevs nodes = map (λ (n : Node). n.prev) nodes
