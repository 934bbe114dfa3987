use Rattle.std.proofs.Common.{◌≡◌, ◌+◌, ◌-◌, ◌<◌, ◌≤◌, length, get_or, Some, refl, ap, ◌∙◌, arith, rules}
use Rattle.net.specs.Table.{link_count}
use Rattle.net.specs.View.{table_of}
use Rattle.net.proofs.Tails.{star_of}
use Rattle.paths.specs.Answer.{breaks}
use Rattle.paths.specs.declared.grade.NotPath.TheVariants.{Grades, NoStation, NoLink, Parted}
use Rattle.site.specs.Ways.{beginning}
use Rattle.site.proofs.Broken.{told}
use Rattle.site.proofs.way.fault_of.Goals as goal
use Rattle.site.proofs.way.fault_of.Goals.{In-NoLink, In-Parted}

pub unreachable-requires : goal.unreachable-requires
unreachable-requires c = told (star_of c.args.net.now) c.args.count c.args.way.now NoStation (c.requires ∙ ap Some c.in-NoStation.is)

missing : (c : In-NoLink) → c.in-NoLink.i < length c.args.way.now
missing c = (told (star_of c.args.net.now) c.args.count c.args.way.now (NoLink c.in-NoLink.i) (c.requires ∙ ap Some c.in-NoLink.is)).2

pub offset_bounds-way-i : goal.offset_bounds-way-i
offset_bounds-way-i c = let h = missing (goal.at.offset_bounds-way-i c).In-NoLink in search rules

pub bounds-way-i : goal.bounds-way-i
bounds-way-i c = missing (goal.at.bounds-way-i c).In-NoLink

apart : (c : In-Parted) → (c.args.count ≡ link_count (table_of c.args.net.now))
    × (breaks (table_of c.args.net.now) 0 (beginning (table_of c.args.net.now) c.args.way.now) c.args.way.now ≡ Some (Parted c.in-Parted.i))
    × (1 ≤ c.in-Parted.i) × (c.in-Parted.i < length c.args.way.now)
apart c = told (star_of c.args.net.now) c.args.count c.args.way.now (Parted c.in-Parted.i) (c.requires ∙ ap Some c.in-Parted.is)

pub offset_bounds-way-i-in-Parted : goal.offset_bounds-way-i-in-Parted
offset_bounds-way-i-in-Parted c = let h = (apart (goal.at.offset_bounds-way-i-in-Parted c).In-Parted).3 in search rules

pub bounds-way-i-in-Parted : goal.bounds-way-i-in-Parted
bounds-way-i-in-Parted c = (apart (goal.at.bounds-way-i-in-Parted c).In-Parted).3

pub overflow_sub-result : goal.overflow_sub-result
overflow_sub-result c = (apart (goal.at.overflow_sub-result c).In-Parted).2

pub offset_bounds-way-i-in-Parted-2 : goal.offset_bounds-way-i-in-Parted-2
offset_bounds-way-i-in-Parted-2 c = let h = (apart (goal.at.offset_bounds-way-i-in-Parted-2 c).In-Parted).3 in search rules

pub bounds-way-i-in-Parted-2 : goal.bounds-way-i-in-Parted-2
bounds-way-i-in-Parted-2 c = omega (arith, (apart (goal.at.bounds-way-i-in-Parted-2 c).In-Parted).3)

pub returns-in-Grades : goal.returns-in-Grades
returns-in-Grades c =
    let m : c.from.result ≡ link_count (table_of c.args.net.now) = search rules in
    (refl, m, λ e. told (star_of c.args.net.now) c.args.count c.args.way.now Grades (c.requires ∙ ap Some c.in-Grades.is) (e ∙ m))

pub returns-in-Parted : goal.returns-in-Parted
returns-in-Parted c =
    let h = apart (goal.at.returns-in-Parted c).In-Parted in
    let e : c.in-Parted.i ≡ c.in-Parted.i - 1 + 1 = omega (arith, h.2) in (
      h.0,
      record {
        place = c.in-Parted.i - 1;
        first = h.1 ∙ ap (λ n. Some (Parted n)) e;
        link = ap (λ n. get_or c.args.way.now n 0) e;
        prior = refl;
      },
    )
