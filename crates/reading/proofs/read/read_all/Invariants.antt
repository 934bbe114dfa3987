use Rattle.std.proofs.Common.{◌≡◌, ◌+◌, drop, length, vec_items}
use Rattle.script.specs.Words.{word_bytes}
use Rattle.reading.specs.Reading.{read_all}
use Rattle.reading.proofs.Spelt.{after}
use Rattle.reading.proofs.read.read_all.Given as goal

abbrev pub invariant-loop-at : goal.invariant-loop-at
invariant-loop-at g l =
    let k = g.T.Readable in
    let ws = word_bytes l.words in
    let i = l.from + length l.yielded in
    read_all k.reads k.bounds (l.from + 1) (drop l.from ws) ≡ after (vec_items l.out) (read_all k.reads k.bounds (i + 1) (drop i ws))
