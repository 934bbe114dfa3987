use Rattle.std.proofs.Common.{refl, ap}
use Rattle.std.proofs.lemmas.Result.{err_from_is_err_and}
use Rattle.runs.specs.Law.{afresh, then_call}
use Rattle.cases.proofs.Calling.{refused-does, start_accepted, work-not_refused}
use Rattle.cases.proofs.caller.plan_from.Goals as goal

pub returns-in_err-start-clause-refuses : goal.returns-in_err-start-clause-refuses
returns-in_err-start-clause-refuses g c =
    let (f, is, same) = err_from_is_err_and c.from_residual.result c.from_residual.ensures.1 in
    rw (is, same) (refused-does _ _ _ c.in_err-start.ensures.does).0

pub returns-in_err-start-clause-unchanged : goal.returns-in_err-start-clause-unchanged
returns-in_err-start-clause-unchanged g c =
    let (f, is, same) = err_from_is_err_and c.from_residual.result c.from_residual.ensures.1 in
    let kept = (refused-does _ _ _ c.in_err-start.ensures.does).1 in
    rw is (ap (λ m. m.plan.labels) kept, ap (λ m. m.plan.entries) kept, ap (λ m. m.list) kept)

pub returns-in_err-picks-clause-refuses : goal.returns-in_err-picks-clause-refuses
returns-in_err-picks-clause-refuses g c = absurd (work-not_refused _ _ _ c.in_ok-start.ensures.does c.in_err-picks.ensures.does)

pub returns-in_err-picks-clause-unchanged : goal.returns-in_err-picks-clause-unchanged
returns-in_err-picks-clause-unchanged g c = absurd (work-not_refused _ _ _ c.in_ok-start.ensures.does c.in_err-picks.ensures.does)

pub returns-clause-refuses : goal.returns-clause-refuses
returns-clause-refuses g c = start_accepted _ _ _ c.in_ok-start.ensures.does

pub returns-clause-runs : goal.returns-clause-runs
returns-clause-runs g c =
    let begun = afresh c.in_ok-start.ensures.does in
    let (on, at) = (c.in_ok-picks.ensures.law _ _ begun).recorded c.args.gateway refl in
    rw (c.new-book.ensures, on, at) at (then_call begun c.in_ok-picks.ensures.does)

pub returns-clause-best : goal.returns-clause-best
returns-clause-best g c told =
    let promise = c.in_ok-picks.ensures.law _ _ (afresh c.in_ok-start.ensures.does) in
    promise.best c.args.gateway refl (promise.rest told)

pub returns-clause-passes : goal.returns-clause-passes
returns-clause-passes g c told =
    let promise = c.in_ok-picks.ensures.law _ _ (afresh c.in_ok-start.ensures.does) in
    rw (promise.checks c.args.gateway refl (promise.rest told)) at c.check-checked.ensures.finds

pub returns-clause-done : goal.returns-clause-done
returns-clause-done g c less =
    let promise = c.in_ok-picks.ensures.law _ _ (afresh c.in_ok-start.ensures.does) in
    (promise.done c.args.allowed c.in_ok-picks.picks c.in_ok-picks.waiting refl refl less).0
