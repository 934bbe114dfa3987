use Rattle.std.proofs.Common.{◌∙◌, sym, arith}
use Rattle.net.specs.Table.{station_count}
use Rattle.net.specs.View.{table_of}
use Rattle.net.proofs.Tails.{star_of}
use Rattle.walks.specs.Branches.{marked}
use Rattle.walks.specs.Walk.{passes}
use Rattle.walks.proofs.Marks.{counted_stations}
use Rattle.walks.proofs.Coming.{comes-no_station, comes-from_none}
use Rattle.walks.proofs.branch.search.branch.Goals as goal

pub returns-then-root-stations-clause-count : goal.returns-then-root-stations-clause-count
returns-then-root-stations-clause-count c =
    let t = table_of c.args.net.now in
    let star = star_of c.args.net.now in
    let is = c.grown.ensures (station_count t) in
    counted_stations star (marked c.grown.result) (passes t c.args.entries.now c.args.root) (λ v _. is v (omega arith))
    (λ v past. is v (omega arith) ∙ comes-from_none star c.args.entries.now c.args.root (omega arith) _ v past)

pub returns-else-root-stations-clause-stations : goal.returns-else-root-stations-clause-stations
returns-else-root-stations-clause-stations c =
    λ v below. c.new.ensures.marks v ∙ sym (comes-no_station (star_of c.args.net.now) c.args.entries.now c.args.root (omega arith) _ v below)

pub returns-else-root-stations-clause-count : goal.returns-else-root-stations-clause-count
returns-else-root-stations-clause-count c =
    counted_stations (star_of c.args.net.now) (marked c.new.result) (passes (table_of c.args.net.now) c.args.entries.now c.args.root) (returns-else-root-stations-clause-stations c) (λ v _. c.new.ensures.marks v)
