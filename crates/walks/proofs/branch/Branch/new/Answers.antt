use Rattle.std.proofs.Common.{refl}
use Rattle.walks.proofs.Marks.{none_marked, none_counted}
use Rattle.walks.proofs.branch.Branch.new.Goals as goal

pub invariant_of-result : goal.invariant_of-result
invariant_of-result c = record { room = refl; counted = none_counted 1024 }

pub returns-clause-marks : goal.returns-clause-marks
returns-clause-marks c = none_marked 1024
