use Rattle.net.specs.View.{table_of}
use Rattle.plans.specs.Plan.{plan}
use Rattle.book.proofs.Scans.{Underway}
use Rattle.book.proofs.scan.scan.Given as goal

abbrev pub invariant-loop-link : goal.invariant-loop-link
invariant-loop-link g l =
    Underway g.K.Kind g.L.CandidateList (table_of l.net) l.gateway l.grades (plan l.fn.labels l.fn.entries) l.fn.list l.station l.label
    l.link-iterator (plan l.labels l.entries) l.list
