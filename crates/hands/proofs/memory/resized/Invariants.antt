use Rattle.std.proofs.Common.{◌≡◌}
use Rattle.hands.specs.Acts.{resized}
use Rattle.hands.proofs.memory.resized.Given as goal

abbrev pub invariant-loop-i : goal.invariant-loop-i
invariant-loop-i g l = l.out.items ≡ resized l.i l.x l.old
