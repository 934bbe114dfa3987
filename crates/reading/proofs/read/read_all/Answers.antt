use Rattle.std.proofs.Common.{◌≡◌, ◌+◌, ◌∷◌, [], ◌++◌, length, vec_items, arith, rules}
use Rattle.std.proofs.lemmas.Iterator.{YieldsList-from_slice}
use Rattle.std.proofs.lemmas.Iterator.Adapters.{YieldsList-from_skip}
use Rattle.std.proofs.lemmas.Iterator.Consumers.{YieldsList-from_enumerate}
use Rattle.std.proofs.lemmas.List.{length_push}
use Rattle.reading.proofs.Spelt.{turn}
use Rattle.reading.proofs.read.read_all.Goals as goal

pub returns-in_err-read_word : goal.returns-in_err-read_word
returns-in_err-read_word g c =
    let h = turn g.T.Readable.reads g.T.Readable.bounds c.args.words.now c.args.from c.loop-at.yielded (vec_items c.loop-at.out)
    (YieldsList-from_skip c.args.from (YieldsList-from_enumerate (YieldsList-from_slice c.args.words.now (cc)) (cc)) (cc)) c.loop-at.yielded_by c.in-Some.is c.next.ensures.steps c.read_word.ensures c.loop-at.invariant in
    let e = rw c.in_err-read_word.was at h in
    search rules

pub loop-at-preserved : goal.loop-at-preserved
loop-at-preserved g c =
    let h = turn g.T.Readable.reads g.T.Readable.bounds c.args.words.now c.args.from c.loop-at.yielded (vec_items c.loop-at.out)
    (YieldsList-from_skip c.args.from (YieldsList-from_enumerate (YieldsList-from_slice c.args.words.now (cc)) (cc)) (cc)) c.loop-at.yielded_by c.in-Some.is c.next.ensures.steps c.read_word.ensures c.loop-at.invariant in
    let n : c.args.from + length (c.loop-at.yielded ++ (c.in-Some.at, c.in-Some.word) ∷ []) ≡ c.args.from + length c.loop-at.yielded + 1 = omega (arith, length_push c.loop-at.yielded (c.in-Some.at, c.in-Some.word)) in
    rw (n, c.in_ok-push.ensures.items) (rw c.in_ok-read_word.was at h)
