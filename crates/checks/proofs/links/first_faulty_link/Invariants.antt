-- None of the links that have been gone through improves a label.
use Rattle.std.proofs.Common.{◌≡◌, None}
use Rattle.net.specs.Table.{first_link}
use Rattle.net.specs.View.{table_of}
use Rattle.net.proofs.Firsts.{NoneBelow}
use Rattle.net.proofs.Going.{Going}
use Rattle.plans.specs.Faults.{link_fault}
use Rattle.plans.specs.Plan.{plan}
use Rattle.checks.proofs.links.first_faulty_link.Given as goal

abbrev pub invariant-stations : goal.invariant-stations
invariant-stations g l = record {
  none : l.found ≡ None;
  before : NoneBelow (link_fault g.K.Kind (table_of l.net) l.grades (plan l.labels l.entries)) (first_link (table_of l.net) l.tail);
}

abbrev pub invariant-loop-link : goal.invariant-loop-link
invariant-loop-link g l = record {
  none : l.found ≡ None;
  going : Going (table_of l.net) l.tail l.link-iterator;
  before : NoneBelow (link_fault g.K.Kind (table_of l.net) l.grades (plan l.labels l.entries)) l.link-iterator.start;
}
