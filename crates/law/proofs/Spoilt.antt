-- A regrade of a link that spoils its head's label keeps the invariant, where the labelled stations with a link to one that lost its label wait.
use Rattle.std.proofs.Common.{◌≡◌, ℕ, ◌<◌, Bool, true, false, ◌≢◌, ◌==◌, List, [], ◌∷◌, slice_set, refl, sym, ap, ap₂, ◌∙◌, inl, inr, arith}
use Rattle.std.specs.List.{list_any}
use Rattle.std.proofs.lemmas.Bool.{cases_Bool, both_ways, and_parts, or_parts, or_left, false_from_ne_true, eq-eqb, eqb-true, eqb-false}
use Rattle.kinds.specs.declared.kind.Kind.{Ghosts as Kind}
use Rattle.lists.specs.declared.list.CandidateList.{Ghosts as Candidates}
use Rattle.net.specs.Table.{Table, station_count, link_count, head_at, tail_at}
use Rattle.paths.specs.Grade.{carried_over}
use Rattle.walks.specs.Walk.{own, entry_at, labelled, crosses}
use Rattle.plans.specs.Plan.{label_at}
use Rattle.plans.proofs.Labels.{as_good_at}
use Rattle.plans.proofs.Labelled.{lab_labelled}
use Rattle.runs.specs.Scan.{links_of}
use Rattle.runs.specs.Regrade.{spoils, cleared, leads_to_lost}
use Rattle.runs.specs.Calls.{Memory}
use Rattle.law.proofs.Invariant.{Fit, View, view_of, view, Sized, Lab, offer, Tree, Inv}
use Rattle.law.proofs.Walks.{walk_is}
use Rattle.law.proofs.Among.{none-in, slice_get-set_other}
use Rattle.law.proofs.Clearing.{gone-entry, kept-label, kept-entry}

module _ {S K L G : Type 0} (k : Kind K L G) (c : Candidates S K L G) (t : Table) (fit : Fit t) (m : Memory L G S) (sized : Sized t m)
    (inv : Inv k t (view k c m) []) (l : ℕ) (x : G) (lm : l < link_count t)
    (s : S) (kept_waits : (v : ℕ) → c.waits m.list v ≡ true → c.waits s v ≡ true)
    (spoilt : spoils k t m.plan l x ≡ true)
    (edge_waits : (v : ℕ) → v < station_count t → labelled (cleared k t m.plan l).entries v ≡ true
    → leads_to_lost t (crosses t m.plan.entries l) v ≡ true → c.waits s v ≡ true) where
  -- what is seen afterwards
  abbrev cut : View L G
  cut = view_of k c m.gateway (slice_set m.grades l x) (cleared k t m.plan l) s

  -- the walk meets the link
  abbrev gone : ℕ → Bool
  gone v = crosses t m.plan.entries l v

  cross-is : (p : List ℕ) (v : ℕ) → Tree k t (view k c m) p v → gone v ≡ list_any (λ j. j == l) p
  cross-is p v h = ap (list_any (λ j. j == l)) (walk_is k c t fit m inv p v h)

  label-stays : (v : ℕ) → gone v ≡ false → label_at k (cleared k t m.plan l) v ≡ label_at k m.plan v
  label-stays v g = kept-label k t m.plan l sized.labels_n v g

  entry-stays : (v : ℕ) → gone v ≡ false → entry_at (cleared k t m.plan l).entries v ≡ entry_at m.plan.entries v
  entry-stays v g = kept-entry k t m.plan l sized.entries_n v g

  offer-stays : (j : ℕ) → j ≢ l → gone (tail_at t j) ≡ false → offer k t cut j ≡ offer k t (view k c m) j
  offer-stays j d g = ap₂ (carried_over k) (label-stays (tail_at t j) g) (slice_get-set_other m.grades l j x d)

  cut-tree : (p : List ℕ) (v : ℕ) → Tree k t (view k c m) p v → list_any (λ j. j == l) p ≡ false → Tree k t cut p v
  cut-tree [] v h g = h
  cut-tree (j ∷ p) v h g =
      let o = or_parts (j == l) (list_any (λ i. i == l) p) g in
      let gone_here = cross-is (j ∷ p) v h ∙ g in
      let gone_tail = cross-is p (tail_at t j) h.5 ∙ o.1 in (
        h.0,
        entry-stays v gone_here ∙ h.1,
        h.2,
        h.3,
        (h.4.0, offer-stays j (eqb-false j l o.0) gone_tail ∙ h.4.1, as_good_at k refl (label-stays v gone_here) h.4.2),
        cut-tree p (tail_at t j) h.5 o.1,
      )

  was : (v : ℕ) → Lab k t cut v → (gone v ≡ false) × Lab k t (view k c m) v
  was v h = elim (cases_Bool (gone v)) [
    | inl g ↦ absurd (h (gone-entry k t m.plan l v g))
    | inr g ↦ (g, λ e. h (entry-stays v g ∙ e))
  ]

  gate-stays : gone m.gateway ≡ false
  gate-stays = cross-is [] m.gateway refl

  -- the link was its head's entry link
  head-goes : gone (head_at t l) ≡ true
  head-goes =
      let e = eqb-true _ _ (and_parts _ _ spoilt).0 in
      let r = inv.grown (head_at t l) (λ f. omega (arith, e, f, lm, fit.few)) in
      go e r.0 r.1
    where
      go : entry_at m.plan.entries (head_at t l) ≡ l → (p : List ℕ) → Tree k t (view k c m) p (head_at t l) → gone (head_at t l) ≡ true
      go e [] h =
          let f : entry_at m.plan.entries (head_at t l) ≡ own = ap (entry_at m.plan.entries) h ∙ inv.gate_entry in
          absurd (omega (arith, e, f, lm, fit.few))
      go e (j ∷ p) h = cross-is (j ∷ p) (head_at t l) h ∙ or_left _ _ (eq-eqb j l (sym h.1 ∙ e))

  -- a labelled station that does not wait has no link to one that lost its label
  no-link : (j : ℕ) → j < link_count t → Lab k t cut (tail_at t j) → c.waits s (tail_at t j) ≡ false → gone (head_at t j) ≡ false
  no-link j jm h w =
      let here : labelled (cleared k t m.plan l).entries (tail_at t j) ≡ true = lab_labelled (cleared k t m.plan l).entries (tail_at t j) h in
      let none : leads_to_lost t (crosses t m.plan.entries l) (tail_at t j) ≡ false =
      false_from_ne_true _ (λ e. both_ways _ w (edge_waits (tail_at t j) (fit.leaves j jm) here e)) in
      none-in (λ i. gone (head_at t i)) (links_of t (tail_at t j)) j none (fit.all j jm)

  pub cut-inv : Inv k t cut []
  cut-inv = record {
    gate_here = inv.gate_here;
    gate_label = label-stays m.gateway gate-stays ∙ inv.gate_label;
    gate_entry = entry-stays m.gateway gate-stays ∙ inv.gate_entry;
    grown = λ v h.
        let w = was v h in
        let r = inv.grown v w.1 in
        (r.0, cut-tree r.0 v r.1 (sym (cross-is r.0 v r.1) ∙ w.0));
    settled = λ j jm jl jw jg jp a offered.
        let w = was (tail_at t j) jl in
        let g = no-link j jm jl jw in
        let d : j ≢ l = λ e. both_ways _ g (ap (λ i. gone (head_at t i)) e ∙ head-goes) in
        let done = false_from_ne_true _ (λ f. both_ways _ jw (kept_waits (tail_at t j) f)) in
        let r = inv.settled j jm w.1 done jg (λ i. i) a (sym (offer-stays j d w.0) ∙ offered) in
        (λ e. r.0 (sym (entry-stays (head_at t j) g) ∙ e), as_good_at k (label-stays (head_at t j) g) refl r.1);
  }
