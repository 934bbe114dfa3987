-- New rows are empty.
use Rattle.std.proofs.Common.{[], length, ap, ◌∙◌, arith}
use Rattle.std.proofs.lemmas.List.{length-replicate}
use Rattle.buckets.specs.Links.{row}
use Rattle.buckets.specs.Shelved.{rows_of}
use Rattle.buckets.specs.ShelvedLemmas.{empty-rows}
use Rattle.buckets.proofs.shelves.Shelves.new.Goals as goal

pub returns : goal.returns
unfolding rows_of
returns c =
    let after = empty-rows (row c.new.result) c.args.count (λ k l. c.new.ensures k (omega (arith, c.requires))) in
    record { after = after; many = ap length after ∙ length-replicate c.args.count [] }
