use Rattle.std.proofs.Common.{◌∙◌, arith}
use Rattle.buckets.specs.FirstsLemmas.{next_from-within}
use Rattle.buckets.specs.ShelvedLemmas.{rows-many, next_row}
use Rattle.buckets.proofs.shelves.Shelves.next.Goals as goal

pub next-requires : goal.next-requires
next-requires c = let s = c.args.self.now in omega (arith, rows-many s, s.fits, c.requires)

pub returns : goal.returns
returns c =
    let found = c.next.ensures ∙ next_row c.args.self.now c.args.at c.requires in
    record { found = found; within = next_from-within _ _ c.args.at _ found (omega (arith, c.requires)) }
