-- What was looked at is parted, and the rest stands above what stays.
use Rattle.std.proofs.Common.{◌≡◌, not, ◌++◌, take, drop, filter}
use Rattle.std.specs.List.{slice_get}
use Rattle.lists.specs.Queues.{line_of}
use Rattle.lists.specs.Thresholds.{passes}
use Rattle.lists.proofs.threshold.acts.part.Given as goal

abbrev pub invariant-loop : goal.invariant-loop
invariant-loop g l =
    (line_of l.first ≡ filter (λ x. passes g.K.Kind l.limit (slice_get l.labels x)) (take l.counter (line_of l.initial.second))) ×
    (line_of l.second ≡ drop l.counter (line_of l.initial.second) ++ filter (λ x. not (passes g.K.Kind l.limit (slice_get l.labels x))) (take l.counter (line_of l.initial.second)))
