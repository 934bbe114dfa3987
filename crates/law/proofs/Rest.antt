-- What the invariant says where no station waits: a check finds no fault, and so each station has the best of its paths.
use Rattle.std.proofs.Common.{◌≡◌, ℕ, ◌<◌, ◌≢◌, true, List, [], ◌∷◌, Some, None, sym, refl, ap, ◌∙◌, subst, inl, inr}
use Rattle.std.specs.List.{slice_get}
use Rattle.std.proofs.lemmas.Bool.{cases_eq, and_from, eq-eqb}
use Rattle.kinds.specs.declared.kind.Kind.{Ghosts as Kind}
use Rattle.kinds.specs.Laws.{Laws}
use Rattle.kinds.specs.Order.{AtLeast}
use Rattle.lists.specs.declared.list.CandidateList.{Ghosts as Candidates}
use Rattle.net.specs.Table.{Table, link_count, head_at, tail_at}
use Rattle.walks.specs.Walk.{labelled}
use Rattle.plans.specs.Plan.{graded, label_at}
use Rattle.plans.specs.Offers.{offered}
use Rattle.plans.specs.Faults.{first_fault}
use Rattle.plans.proofs.Labels.{as_good_at, carried-worse}
use Rattle.plans.proofs.Labelled.{labelled_lab, lab_labelled, own_labelled}
use Rattle.plans.proofs.Sound.{HandedOn, Served}
use Rattle.plans.proofs.Told.{link-offers, sound_told}
use Rattle.runs.specs.Acts.{AtRest}
use Rattle.runs.specs.Calls.{Memory}
use Rattle.law.proofs.Invariant.{Fit, View, view, Sized, Lab, offer, Tree, Inv}
use Rattle.law.proofs.Trees.{tree_lab}
use Rattle.law.proofs.Walks.{tree-moves, walk_home}
use Rattle.law.proofs.Writing.{On, tree_on}

-- the way back from a station comes to the gateway
gate-on : {K L G : Type 0} (k : Kind K L G) (t : Table) (s : View L G) (p : List ℕ) (v : ℕ) → Tree k t s p v → On t s.gw p v
gate-on k t s [] v h = sym h
gate-on k t s (l ∷ p) v h = inr (gate-on k t s p (tail_at t l) h.5)

module _ {S K L G : Type 0} (k : Kind K L G) (laws : Laws k.carry k.at_least k.rank) (c : Candidates S K L G) (t : Table) (fit : Fit t)
    (m : Memory L G S) (sized : Sized t m) (inv : Inv k t (view k c m) []) (still : AtRest c m.list) where
  rest-graded : graded t m.grades ≡ true
  rest-graded = eq-eqb _ _ sized.grades_m

  -- along the way by entries each station has just what its link offers
  handed : (p : List ℕ) (v : ℕ) → Tree k t (view k c m) p v → v ≢ m.gateway → HandedOn k t m.grades m.plan v
  handed [] v h other = absurd (other h)
  handed (l ∷ p) v h other =
      let (a, is, better) = h.4 in
      let from = tree_lab k t (view k c m) fit inv.gate_entry p (tail_at t l) h.5 in
      let q = inv.settled l h.2 from (still (tail_at t l)) (λ e. h.0 (sym h.3 ∙ e)) (λ i. i) a is in
      let just = laws.antisym a (label_at k m.plan v) better (as_good_at k (ap (label_at k m.plan) (sym h.3)) refl q.1) in (
        tree-moves k c t fit m l p v h,
        subst (λ j. labelled m.plan.entries (tail_at t j) ≡ true) (sym h.1) (lab_labelled m.plan.entries (tail_at t l) from),
        ap (λ j. offered k m.grades m.plan (tail_at t j) j) h.1 ∙ is ∙ ap Some just,
      )

  -- no label is better than the gateway's
  gate-best : (v : ℕ) → Lab k t (view k c m) v → AtLeast k (label_at k m.plan m.gateway) (label_at k m.plan v)
  gate-best v h = let (p, way) = inv.grown v h in tree_on k laws t fit (view k c m) p v m.gateway way (gate-on k t (view k c m) p v way)

  -- what a labelled station offers over a link, its head has or better; the gateway too, though none writes there
  taken : (l : ℕ) → l < link_count t → Lab k t (view k c m) (tail_at t l) → (a : L) → offer k t (view k c m) l ≡ Some a
      → (labelled m.plan.entries (head_at t l) ≡ true) × AtLeast k (label_at k m.plan (head_at t l)) a
  taken l h from a is = elim (cases_eq (head_at t l) m.gateway) [
    | inl e ↦
        subst (λ y. (labelled m.plan.entries y ≡ true) × AtLeast k (label_at k m.plan y) a) (sym e) (
          own_labelled m.plan.entries m.gateway inv.gate_entry,
          laws.trans _ _ _ (gate-best (tail_at t l) from) (carried-worse k laws (label_at k m.plan (tail_at t l)) (slice_get m.grades l) a is),
        )
    | inr d ↦ let q = inv.settled l h from (still (tail_at t l)) d (λ i. i) a is in (lab_labelled m.plan.entries (head_at t l) q.0, q.1)
  ]

  served : (l : ℕ) → l < link_count t → labelled m.plan.entries (tail_at t l) ≡ true
      → Served k m.plan (head_at t l) (offered k m.grades m.plan (tail_at t l) l)
  served l h from =
      let (a, is) = link-offers k t m.grades m.plan rest-graded (tail_at t l) l h in
      subst (λ o. Served k m.plan (head_at t l) o) (sym is) (taken l h (labelled_lab m.plan.entries (tail_at t l) from) a is)

  pub rests : first_fault k t m.gateway m.grades m.plan ≡ None
  rests = sound_told k laws t fit.few m.gateway m.grades m.plan record {
    graded = rest-graded;
    sized = and_from _ _ (eq-eqb _ _ sized.labels_n) (eq-eqb _ _ sized.entries_n);
    station = inv.gate_here;
    gate_label = inv.gate_label;
    gate_entry = inv.gate_entry;
    entry = λ v h other. let (p, way) = inv.grown v (labelled_lab m.plan.entries v h) in handed p v way other;
    walk = walk_home k c t fit m inv;
    link = served;
  }
