use Rattle.std.proofs.Common.{◌≡◌, length, get_or, Some, None, arith, rules}
use Rattle.std.proofs.lemmas.Grind.{common_steps}
use Rattle.net.specs.Table.{head_of}
use Rattle.net.specs.View.{table_of}
use Rattle.net.proofs.Heads.{head-found}
use Rattle.net.proofs.Tails.{star_of}
use Rattle.paths.specs.Answer.{not_path}
use Rattle.paths.specs.declared.grade.NotPath.TheVariants.{NoStation, Parted}
use Rattle.paths.proofs.Along.{unbroken-path, refused-no-path, refused-broken, breaks-no-link, breaks-on, breaks-end, grade-on}
use Rattle.paths.proofs.grade.grade_path.Goals as goal

pub returns-then-from-stations-clause-path : goal.returns-then-from-stations-clause-path
returns-then-from-stations-clause-path g c =
    let told : not_path (table_of c.args.net.now) (length c.args.grades.now) c.args.from c.args.way.now ≡ Some NoStation = search rules in
    refused-no-path (star_of c.args.net.now) _ _ _ _ told

pub returns-in_err-head-clause-path : goal.returns-in_err-head-clause-path
returns-in_err-head-clause-path g c =
    let l = c.loop-i in
    let t = table_of c.args.net.now in
    let way = c.args.way.now in
    let head : None ≡ head_of t (get_or way l.i 0) = rw c.in_err-head.ensures.ok_part at c.head.ensures in
    let broken = breaks-no-link t c.args.from way l.i l.at (omega arith) l.invariant.0 head in
    search (rules, refused-broken (star_of c.args.net.now) (length c.args.grades.now) c.args.from way (omega arith) (omega arith) broken)

pub returns-then-not-leaves-clause-path : goal.returns-then-not-leaves-clause-path
returns-then-not-leaves-clause-path g c =
    let told : not_path (table_of c.args.net.now) (length c.args.grades.now) c.args.from c.args.way.now ≡ Some (Parted c.loop-i.i) = grind (arith, common_steps) in
    refused-no-path (star_of c.args.net.now) _ _ _ _ told

pub loop-i-preserved : goal.loop-i-preserved
loop-i-preserved g c =
    let way = c.args.way.now in
    let l = c.loop-i in
    let head : Some c.in_ok-head.head ≡ head_of (table_of c.args.net.now) (get_or way l.i 0) = rw c.in_ok-head.ensures.ok_part at c.head.ensures in
    let link = (head-found (table_of c.args.net.now) _ _ head).0 in
    let label = grade-on g.K.Kind c.args.grades.now way l.i l.label c.carry-label.result c.index-grades-link.result
    (omega arith) (omega arith) c.index-grades-link.is c.carry-label.ensures l.invariant.1 in
    (breaks-on (table_of c.args.net.now) c.args.from way l.i l.at (omega arith) l.invariant.0 _ head c.if-not-leaves.ensures, label)

pub returns-clause-path : goal.returns-clause-path
returns-clause-path g c =
    let way = c.args.way.now in
    let l = c.loop-i in
    let none = breaks-end (table_of c.args.net.now) c.args.from way l.i l.at (omega arith) l.invariant.0 in
    (omega arith, unbroken-path (star_of c.args.net.now) way 0 c.args.from (omega arith) none)
