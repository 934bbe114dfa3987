use Rattle.net.specs.View.{table_of}
use Rattle.script.specs.Words.{word_bytes}
use Rattle.hands.proofs.Lifted.{line_by_model}
use Rattle.hands.proofs.holding.Holding.obey.Goals as goal

pub returns-in-Call : goal.returns-in-Call
returns-in-Call g c =
    rw c.in-Call.is
    (line_by_model g.K.Kind g.K.Label.ToLabel.label (table_of c.args.net.now) g.K.Grade.Spelt.Readable g.K.Grade.Single.makes _ _ c.in-Call.verb (word_bytes c.args.words.now)
    c.call.result c.call.ensures)
