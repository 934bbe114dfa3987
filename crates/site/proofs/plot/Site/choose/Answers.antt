use Rattle.std.proofs.Common.{arith, rules}
use Rattle.hands.proofs.Shapes.{two}
use Rattle.site.proofs.plot.Site.choose.Goals as goal

pub returns : goal.returns
returns c = rw (two c.args.words.now (omega arith)) (search rules)
