-- A station that was seen stays seen.
use Rattle.std.proofs.Common.{◌≡◌, true, false, set, sym, ap, ◌∙◌, rules}
use Rattle.std.proofs.lemmas.List.{set-get_or}
use Rattle.lists.proofs.two_ended.acts.TwoEndedCandidateList.enter.Goals as goal

pub returns-then-self-index : goal.returns-then-self-index
returns-then-self-index g c =
    let seen = c.args.self.now.seen in
    let x = c.index.result in
    let same : set seen x true ≡ seen = ap (set seen x) (sym c.if-self-index.true) ∙ set-get_or seen x false in
    search rules
