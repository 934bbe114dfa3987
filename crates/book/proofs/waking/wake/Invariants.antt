use Rattle.net.specs.View.{table_of}
use Rattle.walks.specs.Branches.{marked}
use Rattle.runs.specs.Regrade.{wakes}
use Rattle.book.proofs.Entering.{Passed}
use Rattle.book.proofs.waking.wake.Given as goal

abbrev pub invariant-loop-station : goal.invariant-loop-station
invariant-loop-station g l = Passed g.L.CandidateList l.initial.list (wakes (table_of l.net) (marked l.lost) l.entries) l.labels l.station l.new l.list
