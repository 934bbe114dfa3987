-- A regrade of a link that does not spoil its head's label keeps the invariant, where its tail waits.
use Rattle.std.proofs.Common.{◌≡◌, ℕ, ◌<◌, true, false, ◌≢◌, List, [], ◌∷◌, Some, slice_set, sym, ap, ◌∙◌, subst, inl, inr, arith}
use Rattle.std.proofs.lemmas.Bool.{cases_eq, both_ways, and_cases, not-false, false_from_ne_true, eqb-false}
use Rattle.kinds.specs.declared.kind.Kind.{Ghosts as Kind}
use Rattle.kinds.specs.Order.{AtLeast}
use Rattle.lists.specs.declared.list.CandidateList.{Ghosts as Candidates}
use Rattle.net.specs.Table.{Table, link_count, head_at, tail_at}
use Rattle.paths.specs.Grade.{carried_over}
use Rattle.walks.specs.Walk.{entry_at, labelled}
use Rattle.plans.specs.Plan.{label_at}
use Rattle.plans.proofs.Labelled.{lab_labelled}
use Rattle.runs.specs.Regrade.{spoils}
use Rattle.runs.specs.Calls.{Memory}
use Rattle.law.proofs.Invariant.{Fit, View, view_of, view, Sized, Lab, offer, Tree, Inv}
use Rattle.law.proofs.Among.{slice_get-set_same, slice_get-set_other}

module _ {S K L G : Type 0} (k : Kind K L G) (c : Candidates S K L G) (t : Table) (fit : Fit t) (m : Memory L G S) (sized : Sized t m)
    (inv : Inv k t (view k c m) []) (l : ℕ) (x : G) (lm : l < link_count t)
    (s : S) (kept_waits : (v : ℕ) → c.waits m.list v ≡ true → c.waits s v ≡ true)
    (fine : spoils k t m.plan l x ≡ false) (tail_waits : labelled m.plan.entries (tail_at t l) ≡ true → c.waits s (tail_at t l) ≡ true) where
  -- what is seen afterwards
  abbrev regraded : View L G
  regraded = view_of k c m.gateway (slice_set m.grades l x) m.plan s

  -- where the link is the entry, it still offers no worse a label
  still : (v : ℕ) → entry_at m.plan.entries v ≡ l → head_at t l ≡ v → AtLeast k (k.carry (label_at k m.plan (tail_at t l)) x) (label_at k m.plan v)
  still v e f = elim (and_cases _ _ fine) [
    | inl u ↦ absurd (eqb-false _ _ u (ap (entry_at m.plan.entries) f ∙ e))
    | inr u ↦ subst (λ y. AtLeast k (k.carry (label_at k m.plan (tail_at t l)) x) (label_at k m.plan y)) f (not-false _ u)
  ]

  new-offer : (j : ℕ) → j ≡ l → offer k t regraded j ≡ Some (k.carry (label_at k m.plan (tail_at t l)) x)
  new-offer j e =
      ap (offer k t regraded) e
      ∙ ap (carried_over k (label_at k m.plan (tail_at t l))) (slice_get-set_same m.grades l x (omega (arith, lm, sized.grades_m)))

  old-offer : (j : ℕ) → j ≢ l → offer k t regraded j ≡ offer k t (view k c m) j
  old-offer j d = ap (carried_over k (label_at k m.plan (tail_at t j))) (slice_get-set_other m.grades l j x d)

  -- the same ways lead to the gateway
  regraded-tree : (p : List ℕ) (v : ℕ) → Tree k t (view k c m) p v → Tree k t regraded p v
  regraded-tree [] v h = h
  regraded-tree (j ∷ p) v h = (
    h.0,
    h.1,
    h.2,
    h.3,
    elim (cases_eq j l) [
      | inl e ↦ (k.carry (label_at k m.plan (tail_at t l)) x, new-offer j e, still v (h.1 ∙ e) (ap (head_at t) (sym e) ∙ h.3))
      | inr d ↦ (h.4.0, old-offer j d ∙ h.4.1, h.4.2)
    ],
    regraded-tree p (tail_at t j) h.5,
  )

  pub regraded-inv : Inv k t regraded []
  regraded-inv = record {
    gate_here = inv.gate_here;
    gate_label = inv.gate_label;
    gate_entry = inv.gate_entry;
    grown = λ v h. let r = inv.grown v h in (r.0, regraded-tree r.0 v r.1);
    settled = λ j jm jl jw jg jp a offered. elim (cases_eq j l) [
      | inl e ↦
          let from : Lab k t (view k c m) (tail_at t l) = subst (λ i. Lab k t (view k c m) (tail_at t i)) e jl in
          absurd (both_ways _ jw (ap (λ i. c.waits s (tail_at t i)) e ∙ tail_waits (lab_labelled m.plan.entries (tail_at t l) from)))
      | inr d ↦
          let done = false_from_ne_true _ (λ w. both_ways _ jw (kept_waits (tail_at t j) w)) in
          inv.settled j jm jl done jg (λ i. i) a (sym (old-offer j d) ∙ offered)
    ];
  }
