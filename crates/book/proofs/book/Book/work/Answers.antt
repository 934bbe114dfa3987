use Rattle.std.proofs.Common.{refl}
use Rattle.refusals.specs.declared.book.BookFault.TheVariants as fault
use Rattle.net.proofs.Tails.{star_of}
use Rattle.law.proofs.Main.{keeps_law}
use Rattle.book.specs.Memories.{work_told}
use Rattle.book.proofs.Answered.{does-refused, does-worked}
use Rattle.book.proofs.book.Book.work.Goals as goal

pub returns-in_err-graded-clause-does : goal.returns-in_err-graded-clause-does
returns-in_err-graded-clause-does g c = does-refused _ _ _ work_told (λ f. refl) _ _ c.from_residual.result _ fault.Grades c.from_residual.ensures.1 c.in_err-graded.ensures.0 (rw c.in_err-graded.ensures.1)

pub returns-in_err-graded-clause-law : goal.returns-in_err-graded-clause-law
returns-in_err-graded-clause-law g c = keeps_law _ _ _ g.met.K.Kind.lawful g.met.L.CandidateList.lawful (star_of c.args.net.now) (returns-in_err-graded-clause-does g c)

pub returns-in_err-sized-clause-does : goal.returns-in_err-sized-clause-does
returns-in_err-sized-clause-does g c = does-refused _ _ _ work_told (λ f. refl) _ _ c.from_residual-in_err-sized.result _ fault.Stations c.from_residual-in_err-sized.ensures.1 c.in_err-sized.ensures.0
    (rw (c.in_ok-graded.ensures, c.in_err-sized.ensures.1))

pub returns-in_err-sized-clause-law : goal.returns-in_err-sized-clause-law
returns-in_err-sized-clause-law g c = keeps_law _ _ _ g.met.K.Kind.lawful g.met.L.CandidateList.lawful (star_of c.args.net.now) (returns-in_err-sized-clause-does g c)

pub returns-in_err-under_way-clause-does : goal.returns-in_err-under_way-clause-does
returns-in_err-under_way-clause-does g c = does-refused _ _ _ work_told (λ f. refl) _ _ c.from_residual-in_err-under_way.result _ fault.NotStarted c.from_residual-in_err-under_way.ensures.1 c.in_err-under_way.ensures.0
    (rw (c.in_ok-graded.ensures, c.in_ok-sized.ensures, c.in_err-under_way.ensures.1))

pub returns-in_err-under_way-clause-law : goal.returns-in_err-under_way-clause-law
returns-in_err-under_way-clause-law g c = keeps_law _ _ _ g.met.K.Kind.lawful g.met.L.CandidateList.lawful (star_of c.args.net.now) (returns-in_err-under_way-clause-does g c)

pub returns-clause-does : goal.returns-clause-does
returns-clause-does g c = does-worked _ _ _ c.args.self.now _ _ _ _ _ _ _ _ c.work.result c.in_ok-under_way.ensures
    (rw (c.in_ok-graded.ensures, c.in_ok-sized.ensures, c.in_ok-under_way.ensures)) c.work.ensures

pub returns-clause-law : goal.returns-clause-law
returns-clause-law g c = keeps_law _ _ _ g.met.K.Kind.lawful g.met.L.CandidateList.lawful (star_of c.args.net.now) (returns-clause-does g c)
