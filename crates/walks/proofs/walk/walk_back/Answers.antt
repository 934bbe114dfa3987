use Rattle.std.proofs.Common.{◌≡◌, ◌∙◌, ◌+◌, ◌≤◌, sym, arith, length-set}
use Rattle.std.proofs.lemmas.List.{drop-set-lt}
use Rattle.std.proofs.lemmas.Grind.{drop_more_same}
use Rattle.net.specs.Table.{station_count}
use Rattle.net.specs.View.{table_of}
use Rattle.walks.proofs.Walking.{stops, walk_stops, walk_end-stops, walk_end-goes, walk_over, walk_end-over, links_more, links_all}
use Rattle.walks.proofs.walk.walk_back.Goals as goal

pub returns-in_default : goal.returns-in_default
returns-in_default c =
    let t = table_of c.args.net.now in
    let l = c.loop-links in
    let still = stops t c.args.entries.now l.at c.in_default.ensures in
    let all = links_all t c.args.entries.now (station_count t) l.links c.args.station l.at l.way (omega arith) (walk_stops t c.args.entries.now _ l.at still) l.invariant.links in
    record {
      many = all.0;
      links = all.1;
      rest = l.invariant.rest;
      end = sym (l.invariant.end ∙ walk_end-stops t c.args.entries.now _ l.at still);
    }

pub loop-links-preserved : goal.loop-links-preserved
loop-links-preserved c =
    let t = table_of c.args.net.now in
    let l = c.loop-links in
    let to = c.in-Some.ensures in
    record {
      room = rw length-set l.invariant.room;
      links = rw c.entry_of.ensures (links_more t c.args.entries.now (station_count t) l.links c.args.station l.at _ l.way (omega arith) (omega arith) to l.invariant.links);
      end = l.invariant.end ∙ walk_end-goes t c.args.entries.now (station_count t) l.links l.at _ (omega arith) to;
      rest = drop-set-lt (l.links + 1) l.way l.links _ (omega arith) ∙ drop_more_same _ _ l.links l.invariant.rest;
    }

pub returns : goal.returns
returns c =
    let t = table_of c.args.net.now in
    let l = c.loop-links in
    let same : c.stations.result ≡ l.links = omega arith in
    let done : station_count t ≤ l.links = omega arith in
    let all = links_all t c.args.entries.now (station_count t) l.links c.args.station l.at l.way (omega arith) (walk_over t c.args.entries.now _ l.links l.at done) l.invariant.links in
    record {
      many = same ∙ all.0;
      links = rw same all.1;
      rest = rw same l.invariant.rest;
      end = sym (l.invariant.end ∙ walk_end-over t c.args.entries.now _ l.links l.at done);
    }
