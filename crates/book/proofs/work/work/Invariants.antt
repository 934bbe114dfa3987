use Rattle.net.specs.View.{table_of}
use Rattle.plans.specs.Plan.{plan}
use Rattle.book.proofs.Picks.{Picked}
use Rattle.book.proofs.work.work.Given as goal

abbrev pub invariant-loop-made : goal.invariant-loop-made
invariant-loop-made g l =
    Picked g.K.Kind g.L.CandidateList (table_of l.net) l.gateway l.grades (plan l.fn.labels l.fn.entries) l.fn.list l.made (plan l.labels l.entries) l.list
