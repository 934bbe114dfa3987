use Rattle.std.proofs.Common.{◌<◌, length, get_or, arith}
use Rattle.lists.specs.Counts.{count_most}
use Rattle.net.specs.View.{table_of}
use Rattle.net.proofs.Going.{going-leaves, going-next}
use Rattle.net.proofs.Tails.{star_of}
use Rattle.walks.specs.Branches.{marked}
use Rattle.walks.specs.Walk.{MovesTo}
use Rattle.walks.proofs.Searching.{moves_to-leaves, moves_over-to, reached_more, passed_more, kept_more, kept_then}
use Rattle.walks.proofs.branch.search.spread.Goals as goal

pub bounds-queue-at : goal.bounds-queue-at
bounds-queue-at c =
    let found = c.args.found.now in
    omega (arith, found.counted, count_most (marked found) 1024)

pub returns-in_default-clause-passed : goal.returns-in_default-clause-passed
returns-in_default-clause-passed c = λ v to. absurd (omega (arith, (moves_to-leaves (star_of c.args.net.now) c.args.entries.now v _ to).station, c.in_default.ensures))

pub loop-link-preserved-then-not-has : goal.loop-link-preserved-then-not-has
loop-link-preserved-then-not-has c =
    let t = table_of c.args.net.now in
    let star = star_of c.args.net.now in
    let entries = c.args.entries.now in
    let l = c.loop-link in
    let m = marked l.found in
    let m' = marked c.add.new.self in
    let head = c.in-Some-entered.head in
    let steps = c.in-Some-link.ensures.steps in
    let add = c.add.ensures in
    let link = c.in-Some-link.link in
    let over = c.in-Some-entered.ensures in
    let to : MovesTo t entries head (get_or l.queue c.args.at 0) =
    rw (l.invariant.kept.places c.args.at c.requires.at) (moves_over-to star entries link head _ over (going-leaves star steps l.invariant.going)) in
    let room : l.found.count < length l.queue = omega (arith, l.invariant.room, add.count, c.add.new.self.counted, count_most m' 1024) in
    let early : c.args.at < l.found.count = omega (arith, c.requires.at, l.invariant.kept.more) in
    record {
      room = c.add.array_long;
      going = going-next star steps l.invariant.going;
      reached = reached_more m m' l.queue _ l.found.count _ head add.marks add.queue add.count t entries c.args.at room early to l.invariant.reached;
      kept = kept_then _ m _ _ l.queue _ _ l.found.count _ l.invariant.kept (kept_more m m' l.queue _ l.found.count _ head add.marks add.queue add.count);
      passed = rw (steps.1.2, ← steps.1.1) (passed_more m m' l.queue _ l.found.count _ head add.marks add.queue add.count t entries _ link over (rw (← steps.1.1) at l.invariant.passed));
    }

pub returns-clause-passed : goal.returns-clause-passed
returns-clause-passed c = λ v to.
    let leaves = moves_to-leaves (star_of c.args.net.now) c.args.entries.now v _ to in
    c.loop-link.invariant.passed v to.0 leaves.from (omega (arith, leaves.to, c.loop-link.invariant.going.to, c.in-None.ensures.steps))
