use Rattle.std.proofs.Common.{sym, leb, rules}
use Rattle.std.proofs.lemmas.List.Sorted.{IsPartitionPoint-from_clause}
use Rattle.net.proofs.Tails.{star_of, ends-parted, ends-found, tail-is}
use Rattle.net.proofs.star.Net.search.Goals as goal

pub returns : goal.returns
returns c =
    let n = c.args.self.now in
    let p = c.partition_point.ensures in
    let point = IsPartitionPoint-from_clause (λ y. leb y c.args.link) _ _ p.partitioned (ends-parted n.starts.now n.rising c.args.link) (λ a r q k. search rules) in
    let w = ends-found (star_of n) _ _ c.requires p.bound point in
    record { lies = w; is = sym (tail-is (star_of n) _ _ w) }
