use Rattle.std.proofs.Common.{◌≡◌, replicate}
use Rattle.hands.proofs.fresh.repeated.Given as goal

abbrev pub invariant-loop : goal.invariant-loop
invariant-loop g l = l.out.items ≡ replicate l.counter l.x
