-- The links that have been gone through are those before the stations and links that are left.
use Rattle.net.specs.Table.{first_link}
use Rattle.net.specs.View.{table_of}
use Rattle.net.proofs.Going.{Going}
use Rattle.walks.proofs.Befores.{Over}
use Rattle.walks.proofs.before.all_before.Given as goal

abbrev pub invariant-loop-tail : goal.invariant-loop-tail
invariant-loop-tail l = Over (table_of l.net) l.entries (first_link (table_of l.net) l.tail) l.before

abbrev pub invariant-loop-link : goal.invariant-loop-link
invariant-loop-link l = record {
  going : Going (table_of l.net) l.tail l.link-iterator;
  over : Over (table_of l.net) l.entries l.link-iterator.start l.before;
}
