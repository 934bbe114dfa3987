-- What a call that is not refused has passed.
use Rattle.std.proofs.Common.{◌≡◌, ℕ, ◌<◌, true, None}
use Rattle.std.proofs.lemmas.Bool.{and_parts, eqb-true, ltb-true}
use Rattle.net.specs.Table.{Table, station_count, link_count}
use Rattle.plans.specs.Plan.{graded, sized}
use Rattle.plans.proofs.Tests.{unless_none}
use Rattle.runs.specs.Calls.{Memory, start, work, regrade, refusal}
use Rattle.law.proofs.Invariant.{Sized}

module _ {L G S : Type 0} (t : Table) (m : Memory L G S) where
  tested-sized : graded t m.grades ≡ true → sized t m.plan ≡ true → Sized t m
  tested-sized h i =
      let p = and_parts _ _ i in
      record { labels_n = eqb-true _ _ p.0; entries_n = eqb-true _ _ p.1; grades_m = eqb-true _ _ h }

  pub start_passed : (g : ℕ) → refusal t m (start g) ≡ None → Sized t m × (g < station_count t)
  start_passed g e =
      let (a, f) = unless_none _ _ _ e in
      let (b, h) = unless_none _ _ _ f in
      (tested-sized a b, ltb-true _ _ (unless_none _ _ _ h).0)

  pub work_passed : (n : ℕ) → refusal t m (work n) ≡ None → Sized t m × (m.started ≡ true)
  work_passed n e =
      let (a, f) = unless_none _ _ _ e in
      let (b, h) = unless_none _ _ _ f in
      (tested-sized a b, (unless_none _ _ _ h).0)

  pub regrade_passed : (l : ℕ) (x : G) → refusal t m (regrade l x) ≡ None → Sized t m × (m.started ≡ true) × (l < link_count t)
  regrade_passed l x e =
      let (a, f) = unless_none _ _ _ e in
      let (b, h) = unless_none _ _ _ f in
      let (d, i) = unless_none _ _ _ h in
      (tested-sized a b, d, ltb-true _ _ (unless_none _ _ _ i).0)
