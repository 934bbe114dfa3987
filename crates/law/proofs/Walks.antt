-- The backward walk finds the way by entries, and so it stops at the gateway.
use Rattle.std.proofs.Common.{◌≡◌, ℕ, zero, suc, ◌≤◌, true, List, [], ◌∷◌, length, sym, refl, ap, ap₂, ◌∙◌, subst, arith}
use Rattle.std.proofs.lemmas.Bool.{cond-true, cond-false, and_from, lt-ltb, eq-eqb}
use Rattle.kinds.specs.declared.kind.Kind.{Ghosts as Kind}
use Rattle.lists.specs.declared.list.CandidateList.{Ghosts as Candidates}
use Rattle.net.specs.Table.{Table, station_count, head_at, tail_at}
use Rattle.paths.proofs.Turned.{Comes}
use Rattle.walks.specs.Walk.{own, entry_at, labelled, moves, walk, walk_end}
use Rattle.plans.proofs.Homeward.{home-end}
use Rattle.plans.proofs.Labelled.{labelled_lab, own_stops}
use Rattle.runs.specs.Calls.{Memory}
use Rattle.law.proofs.Invariant.{Fit, view, Tree, Inv}
use Rattle.law.proofs.Trees.{tree-comes, tree-short}

module _ {S K L G : Type 0} (k : Kind K L G) (c : Candidates S K L G) (t : Table) (fit : Fit t) (m : Memory L G S) where
  pub tree-moves : (l : ℕ) (p : List ℕ) (v : ℕ) → Tree k t (view k c m) (l ∷ p) v → moves t m.plan.entries v ≡ true
  tree-moves l p v h =
      let e : entry_at m.plan.entries v ≡ l = h.1 in
      and_from _ _ (lt-ltb _ _ (omega (arith, e, h.2))) (eq-eqb _ _ (ap (head_at t) e ∙ h.3))

  -- in enough moves
  walk-along : entry_at m.plan.entries m.gateway ≡ own → (n : ℕ) (p : List ℕ) (v : ℕ) → length p ≤ n → Tree k t (view k c m) p v
      → walk t m.plan.entries n v ≡ p
  unfolding walk
  walk-along gate zero [] v short h = refl
  walk-along gate zero (l ∷ p) v short h = absurd (omega arith)
  walk-along gate (suc n) [] v short h = cond-false _ _ _ (own_stops m.plan.entries v t fit.few (ap (entry_at m.plan.entries) h ∙ gate))
  walk-along gate (suc n) (l ∷ p) v short h =
      cond-true _ _ _ (tree-moves l p v h)
      ∙ ap₂ (λ x xs. x ∷ xs) h.1 (ap (λ j. walk t m.plan.entries n (tail_at t j)) h.1 ∙ walk-along gate n p (tail_at t l) (omega arith) h.5)

  module _ (inv : Inv k t (view k c m) []) where
    pub walk_is : (p : List ℕ) (v : ℕ) → Tree k t (view k c m) p v → walk t m.plan.entries (station_count t) v ≡ p
    walk_is p v h = walk-along inv.gate_entry (station_count t) p v (tree-short k t (view k c m) fit inv.gate_here p v h) h

    pub walk_home : (v : ℕ) → labelled m.plan.entries v ≡ true → walk_end t m.plan.entries (station_count t) v ≡ m.gateway
    walk_home v h =
        let r = inv.grown v (labelled_lab m.plan.entries v h) in
        home-end t m.plan.entries m.gateway (station_count t) v
        (subst (λ w. Comes t m.gateway w v) (sym (walk_is r.0 v r.1)) (tree-comes k t (view k c m) r.0 v r.1))
