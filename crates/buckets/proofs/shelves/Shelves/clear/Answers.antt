-- Cleared rows are empty, and as many as before.
use Rattle.std.proofs.Common.{[], length, replicate, sym, ap, ◌∙◌, arith}
use Rattle.std.proofs.lemmas.List.{length-replicate}
use Rattle.buckets.specs.Links.{row}
use Rattle.buckets.specs.Shelved.{rows_of}
use Rattle.buckets.specs.ShelvedLemmas.{empty-rows, rows-many}
use Rattle.buckets.proofs.shelves.Shelves.clear.Goals as goal

pub returns : goal.returns
unfolding rows_of
returns c =
    let s = c.args.self.now in
    let after =
    empty-rows (row c.clear.new.self) s.count (λ k l. c.clear.ensures k (omega (arith, s.fits)))
    ∙ ap (λ n. replicate n []) (sym (rows-many s)) in
    record { after = after; many = ap length after ∙ length-replicate (length (rows_of s)) [] }
