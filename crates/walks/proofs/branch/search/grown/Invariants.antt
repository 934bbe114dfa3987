-- The stations in front of place `at` of the queue have been gone through; each turn takes one more of those that a net can have.
use Rattle.std.proofs.Common.{◌-◌}
use Rattle.net.specs.View.{table_of}
use Rattle.walks.specs.Branches.{marked}
use Rattle.walks.proofs.Found.{Searched}
use Rattle.walks.proofs.branch.search.grown.Given as goal

abbrev pub invariant-loop-at : goal.invariant-loop-at
invariant-loop-at l = Searched (table_of l.net) l.entries l.root (marked l.found) l.queue l.found.count l.at

abbrev pub decreases-loop-at : goal.decreases-loop-at
decreases-loop-at l = 1024 - l.at
