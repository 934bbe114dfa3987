-- When the backward walk from a station passes one where it stops: if it ends there.
use Rattle.std.proofs.Common.{◌≡◌, ℕ, zero, suc, false, eqb, List, refl, inl, inr}
use Rattle.std.proofs.Math.Bool.{or-false}
use Rattle.std.proofs.lemmas.Bool.{cases_Bool, cases_eq, eq-eqb, ne_eqb}
use Rattle.net.specs.Table.{Table, station_count}
use Rattle.walks.specs.Walk.{moves, walk_end, met_back, comes, passes}

module _ (t : Table) (entries : List ℕ) (r : ℕ) where
  comes-end : moves t entries r ≡ false → (k v : ℕ) → comes t entries r k v ≡ eqb (walk_end t entries k v) r
  unfolding walk_end met_back
  comes-end still zero v = or-false (eqb v r)
  comes-end still (suc k) v =
      elim (cases_eq v r) [
        | inl there ↦ rw (there, still, eq-eqb r r refl)
        | inr other ↦ elim (cases_Bool (moves t entries v)) [
          | inl on ↦ rw (on, ne_eqb v r other) (comes-end still k _)
          | inr stops ↦ rw (stops, ne_eqb v r other)
        ]
      ]

pub passes-end : (t : Table) (entries : List ℕ) (r : ℕ) → moves t entries r ≡ false → (v : ℕ) → passes t entries r v ≡ eqb (walk_end t entries (station_count t) v) r
passes-end t entries r still v = comes-end t entries r still (station_count t) v
