-- What the table of tails says of a station.
use Rattle.std.proofs.Common.{◌≡◌, ℕ, ◌<◌, List, Option, IfSome, inl, inr}
use Rattle.std.proofs.lemmas.Bool.{cases_Bool}
use Rattle.net.specs.Table.{Table, ForwardStar, station_count, link_count}
use Rattle.net.proofs.Tails.{tail-leaves}
use Rattle.walks.specs.Walk.{entry_at, moves, before}
use Rattle.walks.proofs.Searching.{moves-parts}

-- the station to which the walk moves from v, and the link over which it does, are those of the net
pub before-within : {t : Table} → ForwardStar t → (entries : List ℕ) (v : ℕ) (o : Option ℕ) → o ≡ before t entries v
    → IfSome o (λ x. (x < station_count t) × (entry_at entries v < link_count t))
before-within {t} star entries v o e = elim (cases_Bool (moves t entries v)) [
  | inl on ↦
      let link = (moves-parts t entries v on).0 in
      rw (e, on) ((tail-leaves star (entry_at entries v) link).station, link)
  | inr still ↦ rw (e, still) tt
]
