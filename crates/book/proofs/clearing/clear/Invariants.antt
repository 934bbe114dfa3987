use Rattle.walks.specs.Branches.{marked}
use Rattle.walks.specs.Walk.{unlabelled}
use Rattle.book.proofs.Wiping.{Wiped}
use Rattle.book.proofs.clearing.clear.Given as goal

abbrev pub invariant-loop-station : goal.invariant-loop-station
invariant-loop-station g l = record {
  labels : Wiped (marked l.lost) g.K.Kind.start l.station l.initial.labels l.labels;
  entries : Wiped (marked l.lost) unlabelled l.station l.initial.entries l.entries;
}
