-- A start begins a stretch of calls.
use Rattle.std.proofs.Common.{◌≡◌, ℕ, ◌<◌, true, ◌||◌, ◌==◌, List, [], length, replicate, None, refl, sym, ap, ◌∙◌, subst, inl, inr, arith, get_or-set_other, get_or-set_same, length-set}
use lib.ListN.{length-replicate}
use Rattle.std.proofs.lemmas.List.{get_or-replicate, get_or_past}
use Rattle.std.proofs.Math.Bool.{or-false}
use Rattle.std.proofs.lemmas.Bool.{cases_eq, cases_lt, eq-eqb, eqb-true, both_ways}
use Rattle.kinds.specs.declared.kind.Kind.{Ghosts as Kind}
use Rattle.kinds.specs.Laws.{Laws}
use Rattle.lists.specs.Meaning.{ListLaws}
use Rattle.lists.specs.declared.list.CandidateList.{Ghosts as Candidates}
use Rattle.net.specs.Table.{Table, station_count, link_count, tail_at}
use Rattle.walks.specs.Walk.{unlabelled, own}
use Rattle.plans.specs.Plan.{first_plan}
use Rattle.runs.specs.Calls.{Memory, Starts, start, refusal}
use Rattle.law.proofs.Invariant.{Fit, view, Sized, Lab, Inv}
use Rattle.law.proofs.Accepting.{start_passed}
use Rattle.law.proofs.Segments.{Seg, fresh_seg, memory_same}

module _ {S K L G : Type 0} (k : Kind K L G) (c : Candidates S K L G) (t : Table)
    (laws : Laws k.carry k.at_least k.rank) (lists : ListLaws c.waits c.emptied c.entered c.picked) (fit : Fit t) where
  -- the memory after a start from the station g
  module _ (grades : List G) (g : ℕ) (q : S) (low : g < station_count t) where
    abbrev begun : Memory L G S
    begun = record { started = true; gateway = g; grades = grades; plan = first_plan k (station_count t) g; list = q }

    begun-entry : (v : ℕ) → Lab k t (view k c begun) v → v ≡ g
    begun-entry v h = elim (cases_eq v g) [
      | inl e ↦ e
      | inr d ↦ absurd (h (get_or-set_other (replicate (station_count t) unlabelled) g v own unlabelled d ∙ elim (cases_lt v (station_count t)) [
        | inl within ↦ get_or-replicate (station_count t) v unlabelled unlabelled within
        | inr past ↦ get_or_past (replicate (station_count t) unlabelled) v unlabelled (omega (arith, length-replicate {A = ℕ} (station_count t) unlabelled))
      ]))
    ]

    begun-inv : ((v : ℕ) → c.waits q v ≡ (v == g)) → Inv k t (view k c begun) []
    begun-inv alone = record {
      gate_here = low;
      gate_label = get_or-replicate (station_count t) g k.start k.start low;
      gate_entry = get_or-set_same (replicate (station_count t) unlabelled) g own unlabelled (omega (arith, length-replicate {A = ℕ} (station_count t) unlabelled));
      grown = λ v h. ([], begun-entry v h);
      settled = λ l in_net lab done. absurd (both_ways _ done (alone (tail_at t l) ∙ eq-eqb _ _ (begun-entry (tail_at t l) lab)));
    }

    begun-seg : length grades ≡ link_count t → ((v : ℕ) → c.waits q v ≡ (v == g)) → Seg k c t (view k c begun) begun 0
    begun-seg each alone =
        let all : Sized t begun = record {
          labels_n = length-replicate (station_count t) k.start;
          entries_n = length-set (replicate (station_count t) unlabelled) g own ∙ length-replicate (station_count t) unlabelled;
          grades_m = each;
        } in
        fresh_seg k c t laws begun all (begun-inv alone) (λ v h. let e : v ≡ g = eqb-true _ _ (sym (alone v) ∙ h) in omega arith)

  pub start_kept : (m : Memory L G S) (g : ℕ) (u : Memory L G S) → refusal t m (start g) ≡ None → Starts k c t m g u → Seg k c t (view k c u) u 0
  start_kept m g u passed starts =
      let (tested, low) = start_passed t m g passed in
      let (e, emptied, (r, entered, same)) = starts.list in
      let labels = (first_plan k (station_count t) g).labels in
      let alone : (v : ℕ) → c.waits u.list v ≡ (v == g) = λ v.
      ap (λ y. c.waits y v) same ∙ lists.adds e g labels r (omega (arith, low, fit.small)) entered v
      ∙ ap (λ b. v == g || b) (lists.clears m.list e emptied v) ∙ or-false (v == g) in
      let whole : begun m.grades g u.list low ≡ u =
      memory_same (begun m.grades g u.list low) u (sym starts.book.0) (sym starts.book.1) (sym starts.grades) (sym starts.plan) refl in
      subst (λ y. Seg k c t (view k c y) y 0) whole (begun-seg m.grades g u.list low tested.grades_m alone)
