-- One label written: the ways by entries stay ways to the gateway, and the invariant stays.
use Rattle.std.proofs.Common.{◌≡◌, ℕ, ◌<◌, true, ◌≢◌, List, [], ◌∷◌, Some, refl, sym, ap, ap₂, ◌∙◌, subst, ◌⊎◌, inl, inr, arith}
use Rattle.std.proofs.lemmas.Bool.{cases_eq, both_ways}
use Rattle.kinds.specs.declared.kind.Kind.{Ghosts as Kind}
use Rattle.kinds.specs.Laws.{Laws}
use Rattle.kinds.specs.Order.{AtLeast}
use Rattle.net.specs.Table.{Table, station_count, link_count, head_at, tail_at}
use Rattle.paths.specs.Grade.{carried_over}
use Rattle.walks.specs.Walk.{own}
use Rattle.plans.proofs.Labels.{as_good-equal, carried-worse, carried-better}
use Rattle.law.proofs.Invariant.{Fit, View, Lab, offer, Tree, Inv}
use Rattle.law.proofs.Trees.{tree_lab}

-- x is on p, which ends at v
abbrev pub On : Table → ℕ → List ℕ → ℕ → Type 0
On t x [] v = x ≡ v
On t x (l ∷ p) v = (x ≡ v) ⊎ On t x p (tail_at t l)

pub on_end : (t : Table) (p : List ℕ) (v : ℕ) → On t v p v
on_end t [] v = refl
on_end t (l ∷ p) v = inl refl

module _ {K L G : Type 0} (k : Kind K L G) (t : Table) where
  -- the head of link l has what the link offers, or better
  abbrev pub HeadServed : View L G → ℕ → Type 0
  HeadServed s l = (a : L) → offer k t s l ≡ Some a → Lab k t s (head_at t l) × AtLeast k (s.lab (head_at t l)) a

  -- u is s with the label a and the entry l written at the head of l, which waits now
  pub record Wrote (s u : View L G) (l : ℕ) (a : L) : Type 0 where
    pub gw_is : u.gw ≡ s.gw
    pub gr_is : (j : ℕ) → u.gr j ≡ s.gr j
    pub lab_at : u.lab (head_at t l) ≡ a
    pub lab_off : (x : ℕ) → x ≢ head_at t l → u.lab x ≡ s.lab x
    pub ent_at : u.ent (head_at t l) ≡ l
    pub ent_off : (x : ℕ) → x ≢ head_at t l → u.ent x ≡ s.ent x
    pub wt_at : u.wt (head_at t l) ≡ true
    pub wt_off : (x : ℕ) → x ≢ head_at t l → u.wt x ≡ s.wt x

  -- the head of link l takes the label a that the link offers
  pub record Takes (s : View L G) (l : ℕ) (a : L) : Type 0 where
    pub in_net : l < link_count t
    pub from : Lab k t s (tail_at t l)
    pub offered : offer k t s l ≡ Some a
    pub not_gate : head_at t l ≢ s.gw
    pub better : Lab k t s (head_at t l) → AtLeast k a (s.lab (head_at t l)) × (AtLeast k (s.lab (head_at t l)) a → ⊥)

module _ {K L G : Type 0} (k : Kind K L G) (laws : Laws k.carry k.at_least k.rank) (t : Table) (fit : Fit t) (s : View L G) where
  -- towards the gateway labels get no worse
  pub tree_on : (p : List ℕ) (v x : ℕ) → Tree k t s p v → On t x p v → AtLeast k (s.lab x) (s.lab v)
  tree_on [] v x h o = as_good-equal k laws _ _ (ap s.lab o)
  tree_on (l ∷ p) v x h (inl e) = as_good-equal k laws _ _ (ap s.lab e)
  tree_on (l ∷ p) v x h (inr o) =
      let f = h.4 in
      laws.trans _ _ _ (tree_on p (tail_at t l) x h.5 o) (laws.trans _ _ _ (carried-worse k laws (s.lab (tail_at t l)) (s.gr l) f.0 f.1) f.2)

module _ {K L G : Type 0} (k : Kind K L G) (laws : Laws k.carry k.at_least k.rank) (t : Table) (fit : Fit t)
    (s u : View L G) (l : ℕ) (a : L) (i : Takes k t s l a) (w : Wrote k t s u l a) where
  pub better_there : (x : ℕ) → Lab k t s x → AtLeast k (u.lab x) (s.lab x)
  better_there x h = elim (cases_eq x (head_at t l)) [
    | inl e ↦ rw e (rw w.lab_at (i.better (rw e at h)).0)
    | inr d ↦ as_good-equal k laws _ _ (w.lab_off x d)
  ]

  pub head_lab : Lab k t u (head_at t l)
  head_lab h = omega (arith, w.ent_at, i.in_net, fit.few)

  pub still_lab : (x : ℕ) → Lab k t s x → Lab k t u x
  still_lab x h = elim (cases_eq x (head_at t l)) [
    | inl e ↦ subst (λ y. Lab k t u y) (sym e) head_lab
    | inr d ↦ λ f. h (sym (w.ent_off x d) ∙ f)
  ]

  pub same_offer : (j : ℕ) → tail_at t j ≢ head_at t l → offer k t u j ≡ offer k t s j
  same_offer j d = ap₂ (carried_over k) (w.lab_off (tail_at t j) d) (w.gr_is j)

  -- no link offers less than before
  better_offer : (j : ℕ) (b : L) → Lab k t s (tail_at t j) → offer k t s j ≡ Some b → (d : L) × (offer k t u j ≡ Some d) × AtLeast k d b
  better_offer j b h e =
      let r = carried-better k laws (s.lab (tail_at t j)) (u.lab (tail_at t j)) (s.gr j) b (better_there (tail_at t j) h) e in
      (r.0, ap (carried_over k (u.lab (tail_at t j))) (w.gr_is j) ∙ r.1, r.2)

  tree_kept : (p : List ℕ) (x : ℕ) → Tree k t s p x → (On t (head_at t l) p x → ⊥) → Tree k t u p x
  tree_kept [] x h off = h ∙ sym w.gw_is
  tree_kept (j ∷ p) x h off =
      let here : x ≢ head_at t l = λ e. off (inl (sym e)) in
      let before : tail_at t j ≢ head_at t l = λ e. off (inr (subst (λ y. On t y p (tail_at t j)) e (on_end t p (tail_at t j)))) in
      let f = h.4 in (
        λ e. h.0 (e ∙ w.gw_is),
        w.ent_off x here ∙ h.1,
        h.2,
        h.3,
        (f.0, same_offer j before ∙ f.1, subst (λ y. AtLeast k f.0 y) (sym (w.lab_off x here)) f.2),
        tree_kept p (tail_at t j) h.5 (λ o. off (inr o)),
      )

  -- no cycle: the head of l is not on the way back from its tail
  no_cycle : (p : List ℕ) → s.ent s.gw ≡ own → Tree k t s p (tail_at t l) → On t (head_at t l) p (tail_at t l) → ⊥
  no_cycle p gate h o =
      let here : AtLeast k (s.lab (head_at t l)) a =
      laws.trans _ _ _ (tree_on k laws t fit s p (tail_at t l) (head_at t l) h o) (carried-worse k laws (s.lab (tail_at t l)) (s.gr l) a i.offered) in
      (i.better (on_lab p (tail_at t l) h o)).1 here
    where
      on_lab : (q : List ℕ) (x : ℕ) → Tree k t s q x → On t (head_at t l) q x → Lab k t s (head_at t l)
      on_lab [] x f e = subst (λ y. Lab k t s y) (sym e) (tree_lab k t s fit gate [] x f)
      on_lab (j ∷ q) x f (inl e) = subst (λ y. Lab k t s y) (sym e) (tree_lab k t s fit gate (j ∷ q) x f)
      on_lab (j ∷ q) x f (inr b) = on_lab q (tail_at t j) f.5 b

  module _ (pend : List ℕ) (inv : Inv k t s (l ∷ pend)) where
    new_tree : (p : List ℕ) × Tree k t u p (head_at t l)
    new_tree =
        let r = inv.grown (tail_at t l) i.from in
        let off = no_cycle r.0 inv.gate_entry r.1 in
        let d : tail_at t l ≢ head_at t l = λ e. off (subst (λ y. On t y r.0 (tail_at t l)) e (on_end t r.0 (tail_at t l))) in (
          l ∷ r.0,
          (
            λ e. i.not_gate (e ∙ w.gw_is),
            w.ent_at,
            i.in_net,
            refl,
            (a, same_offer l d ∙ i.offered, as_good-equal k laws _ _ (sym w.lab_at)),
            tree_kept r.0 (tail_at t l) r.1 off,
          ),
        )

    regrown : (p : List ℕ) (x : ℕ) → Tree k t s p x → (q : List ℕ) × Tree k t u q x
    regrown [] x h = ([], h ∙ sym w.gw_is)
    regrown (j ∷ p) x h =
        let r = regrown p (tail_at t j) h.5 in
        elim (cases_eq x (head_at t l)) [
          | inl e ↦ (new_tree.0, subst (λ y. Tree k t u new_tree.0 y) (sym e) new_tree.1)
          | inr d ↦
              let f = h.4 in
              let b = better_offer j f.0 (tree_lab k t s fit inv.gate_entry p (tail_at t j) h.5) f.1 in (
                j ∷ r.0,
                (
                  λ e. h.0 (e ∙ w.gw_is),
                  w.ent_off x d ∙ h.1,
                  h.2,
                  h.3,
                  (b.0, b.1, laws.trans _ _ _ b.2 (subst (λ y. AtLeast k f.0 y) (sym (w.lab_off x d)) f.2)),
                  r.1,
                ),
              )
        ]

    pub wrote_inv : Inv k t u pend
    wrote_inv = record {
      gate_here = subst (λ y. y < station_count t) (sym w.gw_is) inv.gate_here;
      gate_label = ap u.lab w.gw_is ∙ w.lab_off s.gw (λ e. i.not_gate (sym e)) ∙ inv.gate_label;
      gate_entry = ap u.ent w.gw_is ∙ w.ent_off s.gw (λ e. i.not_gate (sym e)) ∙ inv.gate_entry;
      grown = λ v h. elim (cases_eq v (head_at t l)) [
        | inl e ↦ (new_tree.0, subst (λ y. Tree k t u new_tree.0 y) (sym e) new_tree.1)
        | inr d ↦ let r = inv.grown v (λ e. h (w.ent_off v d ∙ e)) in regrown r.0 v r.1
      ];
      settled = λ j in_net lab done not_gate none b offered. elim (cases_eq (tail_at t j) (head_at t l)) [
        | inl e ↦ absurd (both_ways (u.wt (tail_at t j)) done (ap u.wt e ∙ w.wt_at))
        | inr d ↦
            let before : offer k t s j ≡ Some b = sym (same_offer j d) ∙ offered in
            elim (cases_eq j l) [
              | inl e ↦
                  let same : b ≡ a = let f : offer k t s l ≡ Some b = subst (λ y. offer k t s y ≡ Some b) e before in (cc (f, i.offered)) in (
                    subst (λ y. Lab k t u (head_at t y)) (sym e) head_lab,
                    as_good-equal k laws _ _ (ap (λ y. u.lab (head_at t y)) e ∙ w.lab_at ∙ sym same),
                  )
              | inr ne ↦
                  let old = inv.settled j in_net (λ e. lab (w.ent_off (tail_at t j) d ∙ e)) (sym (w.wt_off (tail_at t j) d) ∙ done)
                  (λ e. not_gate (e ∙ sym w.gw_is)) (λ m. elim m [ inl e ↦ ne e | inr n ↦ none n ]) b before in (
                    still_lab (head_at t j) old.0,
                    laws.trans _ _ _ (better_there (head_at t j) old.0) old.1,
                  )
            ]
      ];
    }

module _ {K L G : Type 0} (k : Kind K L G) (t : Table) (s : View L G) (l : ℕ) (pend : List ℕ) where
  -- there is nothing to write at l
  pub passed_inv : (head_at t l ≢ s.gw → HeadServed k t s l) → Inv k t s (l ∷ pend) → Inv k t s pend
  passed_inv ok inv = record {
    gate_here = inv.gate_here;
    gate_label = inv.gate_label;
    gate_entry = inv.gate_entry;
    grown = inv.grown;
    settled = λ j in_net lab done not_gate none. elim (cases_eq j l) [
      | inl e ↦ subst (λ y. HeadServed k t s y) (sym e) (ok (λ f. not_gate (ap (head_at t) e ∙ f)))
      | inr ne ↦ inv.settled j in_net lab done not_gate (λ m. elim m [ inl e ↦ ne e | inr n ↦ none n ])
    ];
  }
