-- A station less keeps the marks, whether its row is empty now or not.
use Rattle.std.proofs.Common.{◌≡◌, ℕ, List, is_some, option_map, Some, None, Option, sym, ap, ◌∙◌, arith}
use Rattle.lists.specs.Stations.{top_of}
use Rattle.buckets.specs.Rows.{filled}
use Rattle.buckets.specs.Links.{row}
use Rattle.buckets.specs.Shelved.{rows_of}
use Rattle.buckets.specs.Without.{top-filled}
use Rattle.buckets.specs.RowsLemmas.{in-at}
use Rattle.buckets.specs.ShelvedLemmas.{held_below, in-shelves, left-rows, left-marks-off, left-marks-on, left-beyond}
use Rattle.lists.specs.declared.station.Station.{Station}
use Rattle.buckets.proofs.shelves.Shelves.take_out.Goals as goal

-- whether a row has an oldest station
first-filled : (o : Option Station) (xs : List ℕ) → option_map (λ (s : Station). s.index) o ≡ top_of xs → is_some o ≡ filled xs
first-filled None xs e = ap is_some e ∙ top-filled xs
first-filled (Some s) xs e = ap is_some e ∙ top-filled xs

pub unlink-requires : goal.unlink-requires
unlink-requires c = let s = c.args.self.now in sym (in-shelves s c.args.station.index) ∙ in-at (rows_of s) c.args.b c.args.station.index c.requires

pub first-requires : goal.first-requires
first-requires c = let s = c.args.self.now in omega (arith, held_below s c.args.b c.args.station.index c.requires, s.fits)

pub remove-requires : goal.remove-requires
remove-requires c = let s = c.args.self.now in omega (arith, held_below s c.args.b c.args.station.index c.requires, s.fits)

pub invariant_of-self : goal.invariant_of-self
invariant_of-self c =
    let s = c.args.self.now in
    let t = c.unlink.new.self in
    let off = sym (first-filled c.first.result (row t c.args.b) c.first.ensures) ∙ c.if-is_none.ensures in
    record {
      fits = s.fits;
      marks = λ k l. c.remove.ensures k ∙ left-marks-off s t c.args.b c.args.station.index c.requires c.unlink.ensures off k l;
      beyond = left-beyond s t c.args.b c.args.station.index c.requires c.unlink.ensures;
    }

pub invariant_of-self-else-is_none : goal.invariant_of-self-else-is_none
invariant_of-self-else-is_none c =
    let s = c.args.self.now in
    let t = c.unlink.new.self in
    let on = sym (first-filled c.first.result (row t c.args.b) c.first.ensures) ∙ c.if-is_none.ensures in
    record {
      fits = s.fits;
      marks = left-marks-on s t c.args.b c.args.station.index c.requires c.unlink.ensures on;
      beyond = left-beyond s t c.args.b c.args.station.index c.requires c.unlink.ensures;
    }

pub returns-then-is_none : goal.returns-then-is_none
unfolding rows_of
returns-then-is_none c = left-rows c.args.self.now c.unlink.new.self c.args.b c.args.station.index c.requires c.unlink.ensures

pub returns-else-is_none : goal.returns-else-is_none
unfolding rows_of
returns-else-is_none c = left-rows c.args.self.now c.unlink.new.self c.args.b c.args.station.index c.requires c.unlink.ensures
