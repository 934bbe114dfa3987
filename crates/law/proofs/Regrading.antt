-- A regrade that is not refused keeps sizes and the invariant, and only stations of the net wait.
use Rattle.std.proofs.Common.{◌≡◌, ℕ, ◌<◌, true, false, [], length, None, slice_set, refl, sym, ap, ◌∙◌, subst, ◌⊎◌, inl, inr, arith, length-set}
use Rattle.std.specs.List.{range_with_len}
use Rattle.std.proofs.lemmas.Bool.{cases_Bool, cond-true, cond-false, cond_both, and_from}
use Rattle.kinds.specs.declared.kind.Kind.{Ghosts as Kind}
use Rattle.lists.specs.Meaning.{ListLaws}
use Rattle.lists.specs.declared.list.CandidateList.{Ghosts as Candidates}
use Rattle.net.specs.Table.{Table, station_count, link_count, tail_at}
use Rattle.paths.specs.Lists.{In}
use Rattle.walks.specs.Walk.{labelled, crosses}
use Rattle.plans.specs.Plan.{Plan}
use Rattle.runs.specs.Regrade.{spoils, cleared, after_regrade, leads_to_lost, wakes, entering}
use Rattle.runs.specs.Calls.{Memory, regrade, refusal, Regrades}
use Rattle.law.proofs.Invariant.{Fit, view_of, view, Sized, Inv}
use Rattle.law.proofs.Fitting.{in-range}
use Rattle.law.proofs.Among.{in_filter}
use Rattle.law.proofs.Entering.{waits-row, row-waits, entering-station}
use Rattle.law.proofs.Accepting.{regrade_passed}
use Rattle.law.proofs.Clearing.{labels-cleared, entries-cleared}
use Rattle.law.proofs.Segments.{memory_same}
use Rattle.law.proofs.Unspoilt.{regraded-inv}
use Rattle.law.proofs.Spoilt.{cut-inv}

module _ {S K L G : Type 0} (k : Kind K L G) (c : Candidates S K L G) (t : Table)
    (lists : ListLaws c.waits c.emptied c.entered c.picked) (fit : Fit t) (m u : Memory L G S) (l : ℕ) (x : G) (lost new : ℕ)
    (sized : Sized t m) (inv : Inv k t (view k c m) []) (netted : (v : ℕ) → c.waits m.list v ≡ true → v < station_count t)
    (passed : refusal t m (regrade l x) ≡ None) (r : Regrades k c t m l x lost new u) where
  link : l < link_count t
  link = (regrade_passed t m l x passed).2

  small : (v : ℕ) → In v (entering k t m.plan l x) → v < 1024
  small v i = omega (arith, entering-station k t fit m.plan l x link v i, fit.small)

  waiting : (v : ℕ) → In v (entering k t m.plan l x) ⊎ (c.waits m.list v ≡ true) → c.waits u.list v ≡ true
  waiting = waits-row c lists (after_regrade k t m.plan l x).labels (entering k t m.plan l x) m.list u.list small r.list

  -- where labels are lost, the labelled stations with a link to one that lost its label enter
  edge-waits : spoils k t m.plan l x ≡ true → (v : ℕ) → v < station_count t → labelled (cleared k t m.plan l).entries v ≡ true
      → leads_to_lost t (crosses t m.plan.entries l) v ≡ true → c.waits u.list v ≡ true
  edge-waits h v below here leads =
      let test = wakes t (crosses t m.plan.entries l) (cleared k t m.plan l).entries in
      let range = in-range 0 (station_count t) v (omega arith) (omega arith) in
      let enters = in_filter test (range_with_len 0 (station_count t)) v range (and_from _ _ here leads) in
      waiting v (inl (subst (λ vs. In v vs) (sym (cond-true _ _ _ h)) enters))

  -- where none is, the tail enters
  tail-waits : spoils k t m.plan l x ≡ false → labelled m.plan.entries (tail_at t l) ≡ true → c.waits u.list (tail_at t l) ≡ true
  tail-waits h here =
      let alone = cond-false _ _ _ h ∙ cond-true _ _ _ here in
      waiting (tail_at t l) (inl (subst (λ vs. In (tail_at t l) vs) (sym alone) (inl refl)))

  abbrev Fits : Plan L → Type 0
  Fits p = (length p.labels ≡ station_count t) × (length p.entries ≡ station_count t)

  plan-sized : Fits (after_regrade k t m.plan l x)
  plan-sized =
      cond_both (spoils k t m.plan l x) (cleared k t m.plan l) m.plan Fits
      (λ _. (labels-cleared k t m.plan l, entries-cleared k t m.plan l)) (λ _. (sized.labels_n, sized.entries_n))

  -- the memory afterwards, part by part
  moved : (p : Plan L) → u.plan ≡ p → Inv k t (view_of k c m.gateway (slice_set m.grades l x) p u.list) [] → Inv k t (view k c u) []
  moved p e held =
      let made : Memory L G S = record { started = m.started; gateway = m.gateway; grades = slice_set m.grades l x; plan = p; list = u.list } in
      let same : made ≡ u = memory_same made u (sym r.book.0) (sym r.book.1) (sym r.grades) (sym e) refl in
      subst (λ y. Inv k t (view k c y) []) same held

  pub regrade_kept : Sized t u × Inv k t (view k c u) [] × ((v : ℕ) → c.waits u.list v ≡ true → v < station_count t)
  regrade_kept = (
    record {
      labels_n = ap (λ q. length q.labels) r.plan ∙ plan-sized.0;
      entries_n = ap (λ q. length q.entries) r.plan ∙ plan-sized.1;
      grades_m = ap length r.grades ∙ length-set m.grades l x ∙ sized.grades_m;
    },
    elim (cases_Bool (spoils k t m.plan l x)) [
      | inl h ↦
          moved (cleared k t m.plan l) (r.plan ∙ cond-true _ _ _ h) (cut-inv k c t fit m sized inv l x link u.list (λ v w. waiting v (inr w)) h (edge-waits h))
      | inr h ↦
          moved m.plan (r.plan ∙ cond-false _ _ _ h) (regraded-inv k c t fit m sized inv l x link u.list (λ v w. waiting v (inr w)) h (tail-waits h))
    ],
    λ v w. elim (row-waits c lists (after_regrade k t m.plan l x).labels (entering k t m.plan l x) m.list u.list small r.list v w) [
      | inl i ↦ entering-station k t fit m.plan l x link v i
      | inr old ↦ netted v old
    ],
  )
