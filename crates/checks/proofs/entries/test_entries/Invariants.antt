-- None of the stations that have been gone through has a fault by its entry.
use Rattle.net.specs.View.{table_of}
use Rattle.net.proofs.Firsts.{NoneBelow}
use Rattle.plans.specs.Faults.{entry_fault}
use Rattle.plans.specs.Plan.{plan}
use Rattle.checks.proofs.entries.test_entries.Given as goal

abbrev pub invariant-loop-station : goal.invariant-loop-station
invariant-loop-station g l = NoneBelow (entry_fault g.K.Kind (table_of l.net) l.gateway l.grades (plan l.labels l.entries)) l.station
