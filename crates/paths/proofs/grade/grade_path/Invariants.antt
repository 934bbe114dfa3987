use Rattle.std.proofs.Common.{◌≡◌, drop, Some, fold}
use Rattle.net.specs.View.{table_of}
use Rattle.paths.specs.Answer.{breaks}
use Rattle.paths.specs.Grade.{path_grade, through}
use Rattle.paths.proofs.grade.grade_path.Given as goal

-- what is left from the station come to, with the label so far, decides the answer
abbrev pub invariant-loop-i : goal.invariant-loop-i
invariant-loop-i g l =
    (breaks (table_of l.net) 0 l.from l.way ≡ breaks (table_of l.net) l.i l.at (drop l.i l.way))
    × (path_grade g.K.Kind l.grades l.way ≡ fold (through g.K.Kind l.grades) (Some l.label) (drop l.i l.way))
