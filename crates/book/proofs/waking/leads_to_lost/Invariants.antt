-- The links gone through lead to no lost station.
use Rattle.std.proofs.Common.{◌≡◌, ◌≤◌}
use Rattle.std.specs.List.{list_any}
use Rattle.net.specs.Table.{link_count, head_at}
use Rattle.net.specs.View.{table_of}
use Rattle.walks.specs.Branches.{marked}
use Rattle.runs.specs.Regrade.{leads_to_lost}
use Rattle.book.proofs.Scans.{left_in}
use Rattle.book.proofs.waking.leads_to_lost.Given as goal

abbrev pub invariant-loop-link : goal.invariant-loop-link
invariant-loop-link l = record {
  within : l.link-iterator.end ≤ link_count (table_of l.net);
  rest : leads_to_lost (table_of l.net) (marked l.lost) l.station ≡ list_any (λ j. marked l.lost (head_at (table_of l.net) j)) (left_in l.link-iterator);
}
