-- The links gone through have marked their heads, where they are the entries of these.
use Rattle.std.proofs.Common.{◌≡◌, ℕ, ◌<◌, ◌≤◌, true, length, get_or}
use Rattle.net.specs.Table.{first_link}
use Rattle.net.specs.View.{table_of}
use Rattle.net.proofs.Going.{Going}
use Rattle.walks.specs.Branches.{marked}
use Rattle.walks.specs.Search.{Reached, Kept}
use Rattle.walks.specs.Walk.{entry_at, moves}
use Rattle.walks.proofs.branch.search.spread.Given as goal

abbrev pub invariant-loop-link : goal.invariant-loop-link
invariant-loop-link l = record {
  room : length l.queue ≡ 1024;
  going : Going (table_of l.net) (get_or l.initial.queue l.at 0) l.link-iterator;
  reached : Reached (table_of l.net) l.entries (marked l.found) l.queue l.found.count;
  kept : Kept (marked l.initial.found) l.initial.queue l.initial.found.count (marked l.found) l.queue l.found.count;
  passed : (v : ℕ) → moves (table_of l.net) l.entries v ≡ true → first_link (table_of l.net) (get_or l.initial.queue l.at 0) ≤ entry_at l.entries v → entry_at l.entries v < l.link-iterator.start → marked l.found v ≡ true;
}
