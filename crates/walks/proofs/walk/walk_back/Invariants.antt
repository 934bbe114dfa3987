-- The links met so far and the walk from where it has come to, in the moves that are left, are the whole walk.
use Rattle.std.proofs.Common.{◌≡◌, ◌-◌, ◌++◌, length, take, drop}
use Rattle.net.specs.Table.{station_count}
use Rattle.net.specs.View.{table_of}
use Rattle.walks.specs.Walk.{walk, walk_end}
use Rattle.walks.proofs.walk.walk_back.Given as goal

abbrev pub invariant-loop-links : goal.invariant-loop-links
invariant-loop-links l = record {
  room : length l.way ≡ 1024;
  links : walk (table_of l.net) l.entries (station_count (table_of l.net)) l.station ≡ take l.links l.way ++ walk (table_of l.net) l.entries (station_count (table_of l.net) - l.links) l.at;
  end : walk_end (table_of l.net) l.entries (station_count (table_of l.net)) l.station ≡ walk_end (table_of l.net) l.entries (station_count (table_of l.net) - l.links) l.at;
  rest : drop l.links l.way ≡ drop l.links l.initial.way;
}
