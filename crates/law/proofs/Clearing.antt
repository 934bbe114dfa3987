-- What a regrade writes: stations whose backward walk meets the link lose label and entry, and the others keep both.
use Rattle.std.proofs.Common.{◌≡◌, ℕ, zero, suc, ◌<◌, ◌≤◌, true, false, ◌==◌, if◌then◌else◌, List, length, refl, sym, ap, ◌∙◌, subst, ◌⊎◌, inl, inr, arith}
use Rattle.std.specs.List.{list_any}
use Rattle.std.proofs.lemmas.List.{get_or_past}
use Rattle.std.proofs.lemmas.List.FromFn.{get_or-map-range_with_len, length-map-range_with_len}
use Rattle.std.proofs.lemmas.Bool.{cases_Bool, cases_lt, both_ways, cond-true, cond-false, cond_both, and_parts, not_from_false, not_from_true, ltb-true, eq-eqb, ne_eqb}
use Rattle.kinds.specs.declared.kind.Kind.{Ghosts as Kind}
use Rattle.lists.specs.declared.list.CandidateList.{Ghosts as Candidates}
use Rattle.net.specs.Table.{Table, station_count, link_count}
use Rattle.paths.specs.Lists.{In}
use Rattle.walks.specs.Walk.{unlabelled, entry_at, labelled, moves, walk, entry_path, crosses}
use Rattle.plans.specs.Plan.{Plan, label_at}
use Rattle.runs.specs.Regrade.{spoils, cleared}
use Rattle.runs.specs.Calls.{Memory, Regrades}
use Rattle.runs.specs.Law.{KeptOrLost}
use Rattle.law.proofs.Invariant.{Fit, Sized}
use Rattle.law.proofs.Among.{in_reverse, any-in}

module _ {K L G : Type 0} (k : Kind K L G) (t : Table) (p : Plan L) (l : ℕ) where
  -- both lists are made by a test of each station
  abbrev by_walk : {X : Type 0} → X → (ℕ → X) → ℕ → X
  by_walk gone kept v = if crosses t p.entries l v then gone else kept v

  pub labels-cleared : length (cleared k t p l).labels ≡ station_count t
  labels-cleared = length-map-range_with_len (by_walk k.start (label_at k p)) 0 (station_count t)

  pub entries-cleared : length (cleared k t p l).entries ≡ station_count t
  entries-cleared = length-map-range_with_len (by_walk unlabelled (entry_at p.entries)) 0 (station_count t)

  pub gone-entry : (v : ℕ) → crosses t p.entries l v ≡ true → entry_at (cleared k t p l).entries v ≡ unlabelled
  gone-entry v c = elim (cases_lt v (station_count t)) [
    | inl h ↦ get_or-map-range_with_len (by_walk unlabelled (entry_at p.entries)) 0 (station_count t) v v unlabelled h (omega arith) ∙ cond-true _ _ _ c
    | inr h ↦ get_or_past (cleared k t p l).entries v unlabelled (omega (arith, entries-cleared))
  ]

  pub kept-label : length p.labels ≡ station_count t → (v : ℕ) → crosses t p.entries l v ≡ false
      → label_at k (cleared k t p l) v ≡ label_at k p v
  kept-label long v c = elim (cases_lt v (station_count t)) [
    | inl h ↦ get_or-map-range_with_len (by_walk k.start (label_at k p)) 0 (station_count t) v v k.start h (omega arith) ∙ cond-false _ _ _ c
    | inr h ↦ get_or_past (cleared k t p l).labels v k.start (omega (arith, labels-cleared)) ∙ sym (get_or_past p.labels v k.start (omega arith))
  ]

  pub kept-entry : length p.entries ≡ station_count t → (v : ℕ) → crosses t p.entries l v ≡ false
      → entry_at (cleared k t p l).entries v ≡ entry_at p.entries v
  kept-entry long v c = elim (cases_lt v (station_count t)) [
    | inl h ↦ get_or-map-range_with_len (by_walk unlabelled (entry_at p.entries)) 0 (station_count t) v v unlabelled h (omega arith) ∙ cond-false _ _ _ c
    | inr h ↦ get_or_past (cleared k t p l).entries v unlabelled (omega (arith, entries-cleared)) ∙ sym (get_or_past p.entries v unlabelled (omega arith))
  ]

-- a station whose walk meets a link is labelled
walk-labelled : (t : Table) (entries : List ℕ) (l : ℕ) → link_count t ≤ 4096 → (n v : ℕ) → list_any (λ j. j == l) (walk t entries n v) ≡ true
    → labelled entries v ≡ true
unfolding walk
walk-labelled t entries l few zero v h = absurd (both_ways false refl h)
walk-labelled t entries l few (suc n) v h = elim (cases_Bool (moves t entries v)) [
  | inl e ↦
      let link : entry_at entries v < link_count t = ltb-true _ _ (and_parts _ _ e).0 in
      not_from_false _ (ne_eqb _ _ (λ f. omega (arith, link, f, few)))
  | inr e ↦ absurd (both_ways _ (ap (list_any (λ j. j == l)) (cond-false _ _ _ e)) h)
]

module _ {S K L G : Type 0} (k : Kind K L G) (c : Candidates S K L G) (t : Table) (fit : Fit t) where
  pub regrade_keeps : (m u : Memory L G S) (l : ℕ) (x : G) (lost new : ℕ) → Sized t m → Regrades k c t m l x lost new u → (v : ℕ) → KeptOrLost k c t l m u v
  regrade_keeps m u l x lost new sized r v =
      subst kept (sym r.plan)
      (cond_both (spoils k t m.plan l x) (cleared k t m.plan l) m.plan kept
      (λ _. elim (cases_Bool (crosses t m.plan.entries l v)) [
        | inl meets ↦ inr (
          walk-labelled t m.plan.entries l fit.few (station_count t) v meets,
          in_reverse l _ (any-in l _ meets),
          not_from_true _ (eq-eqb _ _ (gone-entry k t m.plan l v meets)),
        )
        | inr apart ↦ inl (kept-label k t m.plan l sized.labels_n v apart, kept-entry k t m.plan l sized.entries_n v apart)
      ])
      (λ _. inl (refl, refl)))
    where
      kept : Plan L → Type 0
      kept q =
          ((label_at k q v ≡ label_at k m.plan v) × (entry_at q.entries v ≡ entry_at m.plan.entries v))
          ⊎ ((labelled m.plan.entries v ≡ true) × In l (entry_path t m.plan.entries v) × (labelled q.entries v ≡ false))
