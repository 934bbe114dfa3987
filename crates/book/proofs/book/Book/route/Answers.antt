use Rattle.std.proofs.Common.{drop, refl}
use Rattle.net.proofs.Tails.{star_of}
use Rattle.law.proofs.Main.{keeps_law}
use Rattle.book.specs.Memories.{route_told}
use Rattle.book.proofs.Answered.{does-refused}
use Rattle.book.proofs.Doing.{routes-by}
use Rattle.book.proofs.book.Book.route.Goals as goal

pub returns-in_err-links-clause-does : goal.returns-in_err-links-clause-does
returns-in_err-links-clause-does g c =
    does-refused _ _ _ (λ r. route_told r c.args.places.now) (λ f. refl) _ _ c.from_residual.result _ _ c.from_residual.ensures.1 refl c.in_err-links.ensures.judged

pub returns-in_err-links-clause-law : goal.returns-in_err-links-clause-law
returns-in_err-links-clause-law g c = keeps_law _ _ _ g.met.K.Kind.lawful g.met.L.CandidateList.lawful (star_of c.args.net.now) (returns-in_err-links-clause-does g c)

pub returns-clause-does : goal.returns-clause-does
returns-clause-does g c =
    let links = c.in_ok-links.ensures.links in
    routes-by _ _ _ (drop c.in_ok-links.links c.args.places.now) c.in_ok-links.ensures.judged links.0 links.1 c.turn.ensures

pub returns-clause-law : goal.returns-clause-law
returns-clause-law g c = keeps_law _ _ _ g.met.K.Kind.lawful g.met.L.CandidateList.lawful (star_of c.args.net.now) (returns-clause-does g c)
