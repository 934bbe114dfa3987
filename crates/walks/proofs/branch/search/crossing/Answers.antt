use Rattle.std.proofs.Common.{◌∙◌, ◌-◌, sym, arith}
use Rattle.net.specs.Table.{station_count}
use Rattle.net.specs.View.{table_of}
use Rattle.net.proofs.Tails.{star_of}
use Rattle.walks.specs.Branches.{marked}
use Rattle.walks.specs.Walk.{crosses}
use Rattle.walks.proofs.Marks.{counted_stations}
use Rattle.walks.proofs.Searching.{moves-station}
use Rattle.walks.proofs.Coming.{comes-from_none}
use Rattle.walks.proofs.Meeting.{meets-none, crosses-comes}
use Rattle.walks.proofs.branch.search.crossing.Goals as goal

pub returns-in-Some-clause-stations : goal.returns-in-Some-clause-stations
returns-in-Some-clause-stations c =
    let t = table_of c.args.net.now in
    λ v. c.grown.ensures (station_count t - 1) v (omega arith) ∙ sym (crosses-comes t c.args.entries.now c.args.link (star_of c.args.net.now) c.in-Some.head c.in-Some.ensures v)

pub returns-in-Some-clause-count : goal.returns-in-Some-clause-count
returns-in-Some-clause-count c =
    let t = table_of c.args.net.now in
    let star = star_of c.args.net.now in
    let entries = c.args.entries.now in
    counted_stations star (marked c.grown.result) (crosses t entries c.args.link) (λ v _. returns-in-Some-clause-stations c v)
    (λ v past. c.grown.ensures (station_count t) v (omega arith) ∙ comes-from_none star entries c.in-Some.head (moves-station star entries _ c.in-Some.ensures.0) _ v past)

pub returns-in-None-clause-stations : goal.returns-in-None-clause-stations
returns-in-None-clause-stations c =
    let t = table_of c.args.net.now in
    λ v. c.new.ensures.marks v ∙ sym (meets-none t c.args.entries.now c.args.link c.in-None.ensures (station_count t) v)

pub returns-in-None-clause-count : goal.returns-in-None-clause-count
returns-in-None-clause-count c =
    counted_stations (star_of c.args.net.now) (marked c.new.result) (crosses (table_of c.args.net.now) c.args.entries.now c.args.link) (λ v _. returns-in-None-clause-stations c v) (λ v _. c.new.ensures.marks v)
