use Rattle.std.proofs.Common.{arith, rules}
use Rattle.hands.proofs.Shapes.{four}
use Rattle.hands.proofs.ask.poke_asked.Goals as goal

pub returns-in_err-element_asked-3 : goal.returns-in_err-element_asked-3
returns-in_err-element_asked-3 g c = rw (four c.args.words.now (omega arith)) (search rules)

pub returns-in_ok-element_asked-3 : goal.returns-in_ok-element_asked-3
returns-in_ok-element_asked-3 g c = rw (four c.args.words.now (omega arith)) (search rules)
