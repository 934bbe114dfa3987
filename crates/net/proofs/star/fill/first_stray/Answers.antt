use Rattle.std.proofs.Common.{◌<◌, ◌≤◌, rules, tests}
use Rattle.std.proofs.lemmas.Iterator.{IsFirst-from_position, YieldsList-from_slice}
use Rattle.net.proofs.Judging.{stray-first}
use Rattle.net.proofs.star.fill.first_stray.Goals as goal

pub returns-in_err-l : goal.returns-in_err-l
returns-in_err-l c =
    let n = c.args.stations in
    let h = c.args.heads.now in
    let f = stray-first n h _ (IsFirst-from_position _ _ c.position.result (λ x. n ≤ x) (λ x. x < n) c.position.ensures.ran (YieldsList-from_slice h cc) (λ x q k. search (rules, tests)) (λ x q k. search (rules, tests))) in
    search (rules, f)

pub returns : goal.returns
returns c =
    let n = c.args.stations in
    let h = c.args.heads.now in
    let f = stray-first n h _ (IsFirst-from_position _ _ c.position.result (λ x. n ≤ x) (λ x. x < n) c.position.ensures.ran (YieldsList-from_slice h cc) (λ x q k. search (rules, tests)) (λ x q k. search (rules, tests))) in
    search (rules, f)
