-- Out of its row, and in again at another, a station is placed there.
use Rattle.std.proofs.Common.{map, length, sym, refl, ap, ◌∙◌, arith}
use Rattle.std.proofs.lemmas.List.{length-map}
use Rattle.std.proofs.lemmas.Bool.{eq-eqb, ne_eqb}
use Rattle.buckets.specs.Rows.{without, in_rows, placed}
use Rattle.buckets.specs.Shelved.{rows_of}
use Rattle.buckets.specs.RowsLemmas.{without_gone, placed-new, placed_moves, length-placed}
use Rattle.buckets.proofs.shelves.Shelves.shift.Goals as goal

pub take_out-requires : goal.take_out-requires
take_out-requires c = c.requires.held c.args.home ∙ eq-eqb c.args.home c.args.home refl

pub put_in-requires : goal.put_in-requires
put_in-requires c =
    let rows = rows_of c.args.self.now in
    let x = c.args.station.index in
    record {
      bound = omega (arith, ap length c.take_out.ensures ∙ length-map rows (without x), c.requires.bound);
      gone = ap (λ q. in_rows q x) c.take_out.ensures ∙ without_gone rows x;
    }

pub returns : goal.returns
returns c =
    let rows = rows_of c.args.self.now in
    let b = c.args.b in
    let x = c.args.station.index in
    let home = c.args.home in
    let after =
    c.put_in.ensures.after ∙ ap (λ q. placed q b x) c.take_out.ensures ∙ placed-new (map (without x) rows) b x (without_gone rows x)
    ∙ sym (placed_moves rows b x (c.requires.held b ∙ ne_eqb b home (λ e. c.requires.apart (sym e)))) in
    record { after = after; many = ap length after ∙ length-placed rows b x }
