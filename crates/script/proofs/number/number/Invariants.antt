use Rattle.std.proofs.Common.{◌≡◌, ◌≤◌, drop}
use Rattle.script.specs.Numbers.{number_of}
use Rattle.script.proofs.Spelling.{number_from}
use Rattle.script.proofs.number.number.Given as goal

abbrev pub invariant-loop-byte : goal.invariant-loop-byte
invariant-loop-byte l = (l.value ≤ l.most) × (l.most ≤ 4294967295) × (number_of l.most l.word ≡ number_from l.most l.value (drop l.byte-index l.word))
