-- What an entry tells of its station: whether it is labelled, and that the walk stops where the entry is the gateway's own.
use Rattle.std.proofs.Common.{◌≡◌, ℕ, ◌<◌, ◌≤◌, ◌≢◌, true, false, List, length, inl, inr, arith}
use Rattle.std.proofs.lemmas.List.{get_or_past}
use Rattle.std.proofs.lemmas.Bool.{cases_lt, not-true, not_from_false, eqb-false, ne_eqb, and_left, and_parts, le-ltb, eqb-true}
use Rattle.net.specs.Table.{Table, station_count, link_count}
use Rattle.walks.specs.Walk.{own, unlabelled, entry_at, labelled, moves}
use Rattle.plans.specs.Plan.{Plan, sized}

module _ (entries : List ℕ) (v : ℕ) where
  -- the test of an entry, and what it tests
  pub labelled_lab : labelled entries v ≡ true → entry_at entries v ≢ unlabelled
  labelled_lab h e = eqb-false _ _ (not-true _ h) e

  pub lab_labelled : entry_at entries v ≢ unlabelled → labelled entries v ≡ true
  lab_labelled h = not_from_false _ (ne_eqb _ _ h)

  pub own_labelled : entry_at entries v ≡ own → labelled entries v ≡ true
  own_labelled e = lab_labelled (λ f. omega (arith, e, f))

  -- no station past the end of the list is labelled
  labelled_within : labelled entries v ≡ true → v < length entries
  labelled_within h = elim (cases_lt v (length entries)) [ inl w ↦ w | inr past ↦ absurd (labelled_lab h (get_or_past entries v unlabelled past)) ]

  -- the gateway's own entry is no link
  pub own_stops : (t : Table) → link_count t ≤ 4096 → entry_at entries v ≡ own → moves t entries v ≡ false
  own_stops t few e = and_left _ _ (le-ltb (entry_at entries v) (link_count t) (omega arith))

pub sized_within : {L : Type 0} (t : Table) (p : Plan L) → sized t p ≡ true → (v : ℕ) → labelled p.entries v ≡ true → v < station_count t
sized_within t p fits v h = omega (arith, labelled_within p.entries v h, eqb-true (length p.entries) (station_count t) (and_parts _ _ fits).1)
