use Rattle.std.proofs.Common.{refl, arith}
use Rattle.std.proofs.lemmas.List.{get_or_read}
use Rattle.net.proofs.Tails.{star_of}
use Rattle.plans.specs.Plan.{plan}
use Rattle.book.proofs.Scans.{labelled-is, underway-first, underway-home, underway-offer, underway-last}
use Rattle.book.proofs.scan.scan.Goals as goal

pub loop-link-init : goal.loop-link-init
loop-link-init g c =
    let range = c.into_iter-link-iterator.ensures.into_iter_gives in
    let (station, first, end) = c.in-Some.ensures in
    let label = get_or_read c.args.labels.now c.args.station c.index-labels-at.result (omega arith) c.index-labels-at.is g.K.Kind.start in
    let labelled = labelled-is c.args.entries.now c.args.station (omega arith) c.if-entries-at.false in
    rw range (underway-first {p₀ = plan c.args.labels.now c.args.entries.now} (star_of c.args.net.now) station first end label labelled)

pub loop-link-preserved-then-head-gateway : goal.loop-link-preserved-then-head-gateway
loop-link-preserved-then-head-gateway g c =
    underway-home _ c.in-Some-link.ensures.steps (rw c.heads.ensures at c.if-head-gateway.true) c.loop-link.invariant

pub loop-link-preserved : goal.loop-link-preserved
loop-link-preserved g c =
    underway-offer g.met.K.Kind.lawful _ _ _ c.in-Some-link.ensures.steps (rw c.heads.ensures at c.if-head-gateway.false) c.requires.grades
    c.index-grades-link.is c.carry-new.ensures
    (rw c.heads.ensures at c.in_ok-offer.ensures.plan) (rw c.heads.ensures at c.in_ok-offer.ensures.list) c.loop-link.invariant

pub returns : goal.returns
returns g c =
    let (planned, acts) = underway-last c.in-None.ensures.steps.1.0 c.loop-link.invariant in
    let labelled = labelled-is c.args.entries.now c.args.station (omega (arith, c.in-Some.ensures.0)) c.if-entries-at.false in
    record { plan = rw labelled planned; list = rw labelled acts; always = refl }
