use Rattle.std.proofs.Common.{sym, ◌∙◌, arith}
use Rattle.script.proofs.Spelling.{at-large}
use Rattle.script.proofs.number.number.Goals as goal

pub returns-then-value-most : goal.returns-then-value-most
returns-then-value-most c = rw (← c.from-most.ensures) (sym (c.loop-byte.invariant.2 ∙ at-large c.from-most.result c.loop-byte.value c.args.word.now c.loop-byte.byte-index (omega arith) (omega arith)))
