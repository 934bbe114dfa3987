-- The labels that were met are all the same.
use Rattle.std.proofs.Common.{◌≡◌, replicate, take}
use Rattle.book.proofs.clearing.fill_labels.Given as goal

abbrev pub invariant-loop-place : goal.invariant-loop-place
invariant-loop-place g l = take l.place-index l.labels ≡ replicate l.place-index l.label
