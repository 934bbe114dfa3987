use Rattle.std.proofs.Common.{false, refl, lit<, lit≤}
use Rattle.std.proofs.lemmas.List.{get_or-replicate}
use Rattle.lists.proofs.queue.Queue.new.Goals as goal

pub invariant_of-result-2 : goal.invariant_of-result-2
invariant_of-result-2 c = record { fits = (refl, refl, lit< tt, lit≤ tt); once = refl; marks = λ k h. get_or-replicate 1024 k false false h }
