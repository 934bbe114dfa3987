-- What is left of the queue gives the answer.
use Rattle.std.proofs.Common.{◌≡◌, drop}
use Rattle.lists.specs.Queues.{line_of}
use Rattle.lists.specs.Thresholds.{best_on, best_label}
use Rattle.lists.proofs.threshold.acts.best_label.Given as goal

abbrev pub invariant-loop-i : goal.invariant-loop-i
invariant-loop-i g l = best_on g.K.Kind l.labels l.best (drop l.i (line_of l.queue)) ≡ best_label g.K.Kind l.labels (line_of l.queue)
