use Rattle.std.proofs.Common.{refl}
use Rattle.net.proofs.Tails.{star_of}
use Rattle.law.proofs.Main.{keeps_law}
use Rattle.book.specs.Memories.{ask_told}
use Rattle.book.proofs.Answered.{does-refused}
use Rattle.book.proofs.Doing.{asks-by}
use Rattle.book.proofs.book.Book.ask.Goals as goal

pub returns-in_err-may_ask-clause-does : goal.returns-in_err-may_ask-clause-does
returns-in_err-may_ask-clause-does g c = does-refused _ _ _ ask_told (λ f. refl) _ _ c.from_residual.result _ _ c.from_residual.ensures.1 refl c.in_err-may_ask.ensures

pub returns-in_err-may_ask-clause-law : goal.returns-in_err-may_ask-clause-law
returns-in_err-may_ask-clause-law g c = keeps_law _ _ _ g.met.K.Kind.lawful g.met.L.CandidateList.lawful (star_of c.args.net.now) (returns-in_err-may_ask-clause-does g c)

pub returns-clause-does : goal.returns-clause-does
returns-clause-does g c = asks-by _ _ _ c.in_ok-may_ask.ensures c.reached.ensures c.waiting.ensures

pub returns-clause-law : goal.returns-clause-law
returns-clause-law g c = keeps_law _ _ _ g.met.K.Kind.lawful g.met.L.CandidateList.lawful (star_of c.args.net.now) (returns-clause-does g c)
