-- The way by entries from a station back to the gateway: there is one at most, it repeats no station, and it leads from the gateway.
use Rattle.std.proofs.Common.{◌≡◌, ℕ, ◌<◌, ◌≤◌, List, [], ◌∷◌, length, sym, refl, ap, ap₂, ◌∙◌, subst, inl, inr, arith}
use lib.ListN.{length-map}
use Rattle.kinds.specs.declared.kind.Kind.{Ghosts as Kind}
use Rattle.net.specs.Table.{Table, station_count, tail_at}
use Rattle.paths.specs.Lists.{In, NoDup}
use Rattle.paths.proofs.Members.{few-below}
use Rattle.paths.proofs.Turned.{Comes, met_on}
use Rattle.walks.specs.Walk.{own, unlabelled}
use Rattle.law.proofs.Invariant.{Fit, View, Lab, Tree}

module _ {K L G : Type 0} (k : Kind K L G) (t : Table) (s : View L G) where
  same-tree : (p q : List ℕ) (v : ℕ) → Tree k t s p v → Tree k t s q v → p ≡ q
  same-tree [] [] v h j = refl
  same-tree [] (l ∷ q) v h j = absurd (j.0 h)
  same-tree (l ∷ p) [] v h j = absurd (h.0 j)
  same-tree (l ∷ p) (m ∷ q) v h j =
      let e : l ≡ m = sym h.1 ∙ j.1 in
      ap₂ (λ x xs. x ∷ xs) e (same-tree p q (tail_at t l) h.5 (subst (λ i. Tree k t s q (tail_at t i)) (sym e) j.5))

  -- a station met on the way has a way of its own, no longer
  tree-from : (p : List ℕ) (v x : ℕ) → Tree k t s p v → In x (met_on t p v) → (q : List ℕ) × Tree k t s q x × (length q ≤ length p)
  tree-from p v x h (inl e) = (p, subst (λ y. Tree k t s p y) (sym e) h, omega arith)
  tree-from [] v x h (inr i) = elim i [ ]
  tree-from (l ∷ p) v x h (inr i) = let r = tree-from p (tail_at t l) x h.5 i in (r.0, r.1, omega arith)

  tree-once : (p : List ℕ) (v : ℕ) → Tree k t s p v → NoDup (met_on t p v)
  tree-once [] v h = (λ i. i, tt)
  tree-once (l ∷ p) v h = (
    λ i.
        let r = tree-from p (tail_at t l) v h.5 i in
        let e = ap length (same-tree r.0 (l ∷ p) v r.1 h) in
        omega (arith, e, r.2),
    tree-once p (tail_at t l) h.5,
  )

  -- its links lead from the gateway
  pub tree-comes : (p : List ℕ) (v : ℕ) → Tree k t s p v → Comes t s.gw p v
  tree-comes [] v h = h
  tree-comes (l ∷ p) v h = (h.2, h.3, tree-comes p (tail_at t l) h.5)

  module _ (fit : Fit t) (gate : s.gw < station_count t) where
    tree-station : (p : List ℕ) (v : ℕ) → Tree k t s p v → v < station_count t
    tree-station [] v h = subst (λ y. y < station_count t) (sym h) gate
    tree-station (l ∷ p) v h = subst (λ y. y < station_count t) h.3 (fit.lands l h.2)

    -- it has no more links than there are stations
    pub tree-short : (p : List ℕ) (v : ℕ) → Tree k t s p v → length p ≤ station_count t
    tree-short p v h =
        let few = few-below (station_count t) (met_on t p v) (tree-once p v h)
        (λ x i. let r = tree-from p v x h i in tree-station r.0 x r.1) in
        omega (arith, few, length-map p (tail_at t))

  -- where it begins there is a label
  pub tree_lab : Fit t → s.ent s.gw ≡ own → (p : List ℕ) (v : ℕ) → Tree k t s p v → Lab k t s v
  tree_lab fit gate [] v h = λ e. let f : s.ent s.gw ≡ unlabelled = ap s.ent (sym h) ∙ e in omega (arith, gate, f)
  tree_lab fit gate (l ∷ p) v h = λ e. let f : l ≡ unlabelled = sym h.1 ∙ e in omega (arith, h.2, fit.few, f)
