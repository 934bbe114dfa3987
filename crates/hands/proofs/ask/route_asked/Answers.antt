use Rattle.std.proofs.Common.{arith, rules}
use Rattle.hands.proofs.Shapes.{three}
use Rattle.hands.proofs.ask.route_asked.Goals as goal

pub returns-in_err-read_word-in-len3 : goal.returns-in_err-read_word-in-len3
returns-in_err-read_word-in-len3 c = rw (three c.args.words.now (omega arith)) (search rules)
