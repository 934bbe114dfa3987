use Rattle.std.proofs.Common.{refl}
use Rattle.net.proofs.Going.{going-next}
use Rattle.net.proofs.Tails.{star_of}
use Rattle.walks.proofs.Befores.{over_none, over_entry}
use Rattle.walks.proofs.before.all_before.Goals as goal

pub loop-tail-init : goal.loop-tail-init
loop-tail-init c = rw ((star_of c.args.net.now).first) (over_none _ _ 1024 refl)

pub loop-link-preserved-in-Some-entered : goal.loop-link-preserved-in-Some-entered
loop-link-preserved-in-Some-entered c =
    let star = star_of c.args.net.now in
    let gives = c.in-Some-link.ensures.steps in
    let l = c.loop-link.invariant in
    record { going = going-next star gives l.going; over = over_entry _ star gives l.going c.in-Some-entered.ensures l.over }
