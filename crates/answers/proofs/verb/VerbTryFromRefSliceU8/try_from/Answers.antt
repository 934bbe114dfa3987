use Rattle.std.proofs.Common.{codes, arith, rules}
use Rattle.std.proofs.lemmas.Slice.Eq.{text_from_reads}
use Rattle.answers.proofs.verb.VerbTryFromRefSliceU8.try_from.Goals as goal

pub returns-in-grades : goal.returns-in-grades
returns-in-grades c = rw (text_from_reads c.args.word.now (codes "grades") (omega arith) (search (rules, arith)))

pub returns-in-waiting : goal.returns-in-waiting
returns-in-waiting c = rw (text_from_reads c.args.word.now (codes "waiting") (omega arith) (search (rules, arith)))

pub returns-in-start : goal.returns-in-start
returns-in-start c = rw (text_from_reads c.args.word.now (codes "start") (omega arith) (search (rules, arith)))

pub returns-in-regrade : goal.returns-in-regrade
returns-in-regrade c = rw (text_from_reads c.args.word.now (codes "regrade") (omega arith) (search (rules, arith)))

pub returns-in-route : goal.returns-in-route
returns-in-route c = rw (text_from_reads c.args.word.now (codes "route") (omega arith) (search (rules, arith)))

pub returns-in-check : goal.returns-in-check
returns-in-check c = rw (text_from_reads c.args.word.now (codes "check") (omega arith) (search (rules, arith)))

pub returns-in-labels : goal.returns-in-labels
returns-in-labels c = rw (text_from_reads c.args.word.now (codes "labels") (omega arith) (search (rules, arith)))

pub returns-in-entries : goal.returns-in-entries
returns-in-entries c = rw (text_from_reads c.args.word.now (codes "entries") (omega arith) (search (rules, arith)))

pub returns-in-resize : goal.returns-in-resize
returns-in-resize c = rw (text_from_reads c.args.word.now (codes "resize") (omega arith) (search (rules, arith)))

pub returns-in-enter : goal.returns-in-enter
returns-in-enter c = rw (text_from_reads c.args.word.now (codes "enter") (omega arith) (search (rules, arith)))

pub returns-in-empty : goal.returns-in-empty
returns-in-empty c = rw (text_from_reads c.args.word.now (codes "empty") (omega arith) (search (rules, arith)))
