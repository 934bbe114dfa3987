use Rattle.std.proofs.Common.{refl}
use Rattle.net.proofs.Tails.{star_of}
use Rattle.law.proofs.Main.{keeps_law}
use Rattle.book.specs.Memories.{regrade_told}
use Rattle.book.proofs.Answered.{does-refused}
use Rattle.book.proofs.Regrading.{keeps-by, loses-by}
use Rattle.book.proofs.book.Book.regrade.Goals as goal

pub returns-in_err-tail-clause-does : goal.returns-in_err-tail-clause-does
returns-in_err-tail-clause-does g c = does-refused _ _ _ regrade_told (λ f. refl) _ _ c.from_residual.result _ _ c.from_residual.ensures.1 refl (c.in_err-tail.ensures.judged c.args.grade)

pub returns-in_err-tail-clause-law : goal.returns-in_err-tail-clause-law
returns-in_err-tail-clause-law g c = keeps_law _ _ _ g.met.K.Kind.lawful g.met.L.CandidateList.lawful (star_of c.args.net.now) (returns-in_err-tail-clause-does g c)

pub returns-then-not-spoils-clause-does : goal.returns-then-not-spoils-clause-does
returns-then-not-spoils-clause-does g c = keeps-by _ _ _ _ _ _ (c.in_ok-tail.ensures.judged c.args.grade) _ _ c.in_ok-tail.ensures.ends _ c.spoils-spoils.ensures c.if-not-spoils.true c.in_ok-wake_one.ensures

pub returns-then-not-spoils-clause-law : goal.returns-then-not-spoils-clause-law
returns-then-not-spoils-clause-law g c = keeps_law _ _ _ g.met.K.Kind.lawful g.met.L.CandidateList.lawful (star_of c.args.net.now) (returns-then-not-spoils-clause-does g c)

pub returns-clause-does : goal.returns-clause-does
returns-clause-does g c = loses-by _ _ _ _ _ _ (c.in_ok-tail.ensures.judged c.args.grade) _ _ c.in_ok-tail.ensures.ends _ c.spoils-spoils.ensures c.if-not-spoils.false
    c.crossing-lost.ensures.stations c.crossing-lost.ensures.count c.count.ensures c.clear.ensures c.in_ok-new.ensures

pub returns-clause-law : goal.returns-clause-law
returns-clause-law g c = keeps_law _ _ _ g.met.K.Kind.lawful g.met.L.CandidateList.lawful (star_of c.args.net.now) (returns-clause-does g c)
