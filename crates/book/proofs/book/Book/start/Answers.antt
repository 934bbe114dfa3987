use Rattle.std.proofs.Common.{refl}
use Rattle.net.proofs.Tails.{star_of}
use Rattle.law.proofs.Main.{keeps_law}
use Rattle.book.specs.Memories.{start_told}
use Rattle.book.proofs.Answered.{does-refused}
use Rattle.book.proofs.Doing.{starts-by}
use Rattle.book.proofs.book.Book.start.Goals as goal

pub returns-in_err-may_start-clause-does : goal.returns-in_err-may_start-clause-does
returns-in_err-may_start-clause-does g c = does-refused _ _ _ start_told (λ f. refl) _ _ c.from_residual.result _ _ c.from_residual.ensures.1 refl c.in_err-may_start.ensures

pub returns-in_err-may_start-clause-law : goal.returns-in_err-may_start-clause-law
returns-in_err-may_start-clause-law g c = keeps_law _ _ _ g.met.K.Kind.lawful g.met.L.CandidateList.lawful (star_of c.args.net.now) (returns-in_err-may_start-clause-does g c)

pub returns-clause-does : goal.returns-clause-does
returns-clause-does g c = starts-by _ _ _ (star_of c.args.net.now) c.in_ok-may_start.ensures c.begin.ensures.labels c.begin.ensures.entries c.empty.ensures c.in_ok-enter.ensures.enters

pub returns-clause-law : goal.returns-clause-law
returns-clause-law g c = keeps_law _ _ _ g.met.K.Kind.lawful g.met.L.CandidateList.lawful (star_of c.args.net.now) (returns-clause-does g c)
