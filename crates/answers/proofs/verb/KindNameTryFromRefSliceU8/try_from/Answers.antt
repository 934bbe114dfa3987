use Rattle.std.proofs.Common.{codes, arith, rules}
use Rattle.std.proofs.lemmas.Slice.Eq.{text_from_reads}
use Rattle.answers.proofs.verb.KindNameTryFromRefSliceU8.try_from.Goals as goal

pub returns-in-airtime : goal.returns-in-airtime
returns-in-airtime c = rw (text_from_reads c.args.word.now (codes "airtime") (omega arith) (search (rules, arith)))

pub returns-in-chance : goal.returns-in-chance
returns-in-chance c = rw (text_from_reads c.args.word.now (codes "chance") (omega arith) (search (rules, arith)))

pub returns-in-margin : goal.returns-in-margin
returns-in-margin c = rw (text_from_reads c.args.word.now (codes "margin") (omega arith) (search (rules, arith)))
