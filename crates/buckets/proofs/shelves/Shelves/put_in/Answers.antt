-- A station more keeps the marks.
use Rattle.std.proofs.Common.{length, sym, ap, ◌∙◌, arith}
use Rattle.buckets.specs.Shelved.{rows_of}
use Rattle.buckets.specs.RowsLemmas.{placed-new, length-placed}
use Rattle.buckets.specs.ShelvedLemmas.{rows-many, in-shelves, put-rows, put-marks, put-beyond}
use Rattle.buckets.proofs.shelves.Shelves.put_in.Goals as goal

pub push-requires : goal.push-requires
push-requires c =
    let s = c.args.self.now in
    record { bound = omega (arith, rows-many s, s.fits, c.requires.bound); gone = sym (in-shelves s c.args.station.index) ∙ c.requires.gone }

pub insert-requires : goal.insert-requires
insert-requires c = let s = c.args.self.now in omega (arith, rows-many s, s.fits, c.requires.bound)

pub invariant_of-self : goal.invariant_of-self
invariant_of-self c =
    let s = c.args.self.now in
    let t = c.push.new.self in
    record {
      fits = s.fits;
      marks = λ k l. c.insert.ensures k ∙ put-marks s t c.args.b c.args.station.index c.requires.bound c.push.ensures k l;
      beyond = put-beyond s t c.args.b c.args.station.index c.requires.bound c.push.ensures;
    }

pub returns : goal.returns
unfolding rows_of
returns c =
    let s = c.args.self.now in
    let x = c.args.station.index in
    let after = put-rows s c.push.new.self c.args.b x c.requires.bound c.push.ensures ∙ sym (placed-new (rows_of s) c.args.b x c.requires.gone) in
    record { after = after; many = ap length after ∙ length-placed (rows_of s) c.args.b x }
