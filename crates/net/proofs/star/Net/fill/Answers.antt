use Rattle.std.proofs.Common.{◌≡◌, rules}
use Rattle.net.specs.Table.{table}
use Rattle.net.specs.Judged.{net_fault, judged}
use Rattle.net.proofs.Judging.{unrefused-star, judged-ok, judged-star}
use Rattle.net.proofs.star.Net.fill.Goals as goal

pub invariant_of-self : goal.invariant_of-self
invariant_of-self c =
    let s = unrefused-star (table c.args.starts.now c.args.heads.now) (judged-ok _ _ c.in_ok-tested.ensures) in
    record { some = s.some; few = s.few; light = s.light; first = s.first; rising = s.rising; last = s.last; within = s.within }

pub returns-in_err-tested-clause-lawful : goal.returns-in_err-tested-clause-lawful
returns-in_err-tested-clause-lawful c =
    let told : c.from_residual.result ≡ judged (net_fault (table c.args.starts.now c.args.heads.now)) = search rules in
    judged-star _ _ told
