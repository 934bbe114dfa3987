use Rattle.std.proofs.Common.{drop, Decides}
use Rattle.net.specs.View.{table_of}
use Rattle.paths.specs.Simple.{Simple}
use Rattle.paths.proofs.Marks.{onward}
use Rattle.paths.proofs.simple.leads_on.Given as goal

-- what is left from the station come to, with the marks so far, decides the answer
abbrev pub invariant-loop-link : goal.invariant-loop-link
invariant-loop-link l = Decides (onward (table_of l.net) l.met l.at (drop l.link-index l.way)) (Simple (table_of l.net) l.way)
