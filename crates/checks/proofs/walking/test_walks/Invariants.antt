-- The stations that have been gone through are unlabelled, or their walks meet the gateway.
use Rattle.net.specs.View.{table_of}
use Rattle.net.proofs.Firsts.{NoneBelow}
use Rattle.plans.specs.Faults.{walk_fault}
use Rattle.checks.proofs.walking.test_walks.Given as goal

abbrev pub invariant-loop-station : goal.invariant-loop-station
invariant-loop-station l = NoneBelow (walk_fault (table_of l.net) l.gateway l.entries) l.station
