use Rattle.std.proofs.Common.{◌≡◌, sym, arith}
use Rattle.std.proofs.lemmas.List.{get_or_read}
use borrow.Author.Count.{below_more}
use Rattle.net.specs.Table.{station_count}
use Rattle.net.specs.View.{table_of}
use Rattle.net.proofs.Firsts.{none_is, first-is}
use Rattle.net.proofs.Going.{going-leaves, going-below, going-next}
use Rattle.net.proofs.Tails.{star_of}
use Rattle.plans.specs.Faults.{link_fault}
use Rattle.plans.specs.Plan.{plan}
use Rattle.checks.proofs.Improving.{silent, improves}
use Rattle.checks.proofs.links.first_faulty_link.Goals as goal
use Rattle.checks.proofs.links.first_faulty_link.Goals.{After-welcomes}
use Rattle.checks.proofs.links.first_faulty_link.Given.{Over}

pub stations-preserved-then-not-labelled : goal.stations-preserved-then-not-labelled
stations-preserved-then-not-labelled g c =
    record {
      none = c.stations.invariant.none;
      before = silent g.K.Kind (star_of c.args.net.now) c.args.grades.now (plan c.args.labels.now c.args.entries.now) c.stations.tail (omega arith) (sym c.if-not-labelled.ensures) c.stations.invariant.before;
    }

pub bounds-heads-link : goal.bounds-heads-link
bounds-heads-link g c = rw c.heads.ensures (going-below (star_of c.args.net.now) c.in-Some-link.ensures.steps c.loop-link.invariant.going)

pub offset_bounds-grades-link : goal.offset_bounds-grades-link
offset_bounds-grades-link g c = omega (arith, going-below (star_of c.args.net.now) c.in-Some-link.ensures.steps c.loop-link.invariant.going)

pub bounds-grades-link : goal.bounds-grades-link
bounds-grades-link g c = omega (arith, going-below (star_of c.args.net.now) c.in-Some-link.ensures.steps c.loop-link.invariant.going)

-- what `welcomes` answers says whether the link has a fault
answer-is : (g : Over) (c : After-welcomes g)
    → c.welcomes.result ≡ link_fault g.K.Kind (table_of c.args.net.now) c.args.grades.now (plan c.args.labels.now c.args.entries.now) c.in-Some-link.link
answer-is g c =
    let star = star_of c.args.net.now in
    let gives = c.in-Some-link.ensures.steps in
    let going = c.loop-link.invariant.going in
    let label = get_or_read c.args.labels.now c.stations.tail c.index-labels-tail.result (omega arith) c.index-labels-tail.is g.K.Kind.start in
    let is = improves g.K.Kind star c.args.grades.now (plan c.args.labels.now c.args.entries.now) c.stations.tail c.in-Some-link.link _ _ _ (going-leaves star gives going)
    (sym c.if-not-labelled.ensures) label (omega (arith, going-below star gives going)) c.index-grades-link.is c.carry-new.ensures in
    rw is (rw c.heads.ensures at c.welcomes.ensures)

pub loop-link-preserved : goal.loop-link-preserved
loop-link-preserved g c =
    let gives = c.in-Some-link.ensures.steps in
    let l = c.loop-link.invariant in
    let fine = rw (answer-is g (goal.at.loop-link-preserved g c).After-welcomes) at c.if-welcomes.false in
    record {
      none = l.none;
      going = going-next (star_of c.args.net.now) gives l.going;
      before = rw gives.1.2 (below_more _ _ l.before (rw (gives.1.1) at fine));
    }

pub returns-after-stations : goal.returns-after-stations
returns-after-stations g c =
    let star = star_of c.args.net.now in
    let all : c.stations.tail ≡ station_count (table_of c.args.net.now) = omega arith in
    rw (c.stations.invariant.none) (sym (none_is _ _ (λ k below. c.stations.invariant.before k (rw (all, star.last) below))))

pub returns-then-welcomes : goal.returns-then-welcomes
returns-then-welcomes g c =
    let gives = c.in-Some-link.ensures.steps in
    let l = c.loop-link.invariant in
    let fault = rw (answer-is g (goal.at.returns-then-welcomes g c).After-welcomes) at c.if-welcomes.true in
    sym (first-is _ _ c.in-Some-link.link (going-below (star_of c.args.net.now) gives l.going) fault (λ k below. l.before k (omega (arith, gives))))
