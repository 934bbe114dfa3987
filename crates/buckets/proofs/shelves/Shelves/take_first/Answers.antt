-- What leaves the row with its oldest station is that station alone.
use Rattle.std.proofs.Common.{[], length, slice_index_or, set, option_map, Some, None, sym, ap, ◌∙◌, arith, length-set}
use Rattle.std.proofs.lemmas.List.{set-get_or}
use Rattle.lists.specs.Stations.{holds, rest_of}
use Rattle.lists.specs.StationsLemmas.{holds-head}
use Rattle.buckets.specs.Shelved.{rows_of}
use Rattle.buckets.specs.Without.{top-some, top-none}
use Rattle.buckets.specs.RowsLemmas.{rest-without}
use Rattle.buckets.specs.ShelvedLemmas.{rows-many, top-at, sound}
use Rattle.lists.specs.declared.station.Station.{Station}
use Rattle.buckets.proofs.shelves.Shelves.take_first.Goals as goal

pub first-requires : goal.first-requires
first-requires c = let s = c.args.self.now in omega (arith, rows-many s, s.fits, c.requires)

pub take_out-requires : goal.take_out-requires
take_out-requires c =
    let s = c.args.self.now in
    let x = c.in_ok-station.station.index in
    let top = top-at s c.args.b (Some x) c.requires (ap (option_map (λ (s : Station). s.index)) (sym c.in_ok-station.was) ∙ c.first.ensures) in
    ap (λ q. holds q x) (top-some (slice_index_or (rows_of s) c.args.b []) x top) ∙ holds-head x (rest_of (slice_index_or (rows_of s) c.args.b []))

pub returns : goal.returns
returns c =
    let s = c.args.self.now in
    let b = c.args.b in
    let x = c.in_ok-station.station.index in
    let top = top-at s b (Some x) c.requires (ap (option_map (λ (s : Station). s.index)) (sym c.in_ok-station.was) ∙ c.first.ensures) in
    let after = c.take_out.ensures ∙ rest-without (rows_of s) b x (rest_of (slice_index_or (rows_of s) b [])) (sound s) c.requires (top-some (slice_index_or (rows_of s) b []) x top) in
    record { answer = top; after = after; many = ap length after ∙ length-set _ _ _ }

pub returns-in_err-station : goal.returns-in_err-station
returns-in_err-station c =
    let s = c.args.self.now in
    let b = c.args.b in
    let top = top-at s b None c.requires (ap (option_map (λ (s : Station). s.index)) (sym c.in_err-station.was) ∙ c.first.ensures) in
    let bare = top-none (slice_index_or (rows_of s) b []) top in
    let same = ap (set (rows_of s) b) (ap rest_of bare ∙ sym bare) ∙ set-get_or (rows_of s) b [] in
    record { answer = ap (option_map (λ (s : Station). s.index)) c.from_residual.ensures ∙ top; after = sym same; many = ap length (sym same) ∙ length-set _ _ _ }
