-- Lists that are sound are a tree of best paths.
use Rattle.std.proofs.Common.{◌≡◌, ℕ, zero, suc, ◌≢◌, true, List, [], ◌∷◌, reverse, Some, None, Option, IsSomeAnd, sym, ap, ◌∙◌, subst, inl, inr}
use Rattle.std.specs.List.{slice_get}
use Rattle.std.proofs.lemmas.Bool.{cases_Bool, both_ways, and_parts, ltb-true, eqb-true}
use Rattle.kinds.specs.declared.kind.Kind.{Ghosts as Kind}
use Rattle.kinds.specs.Laws.{Laws}
use Rattle.kinds.specs.Order.{AtLeast}
use Rattle.net.specs.Table.{Table, ForwardStar, station_count, head_at, tail_at}
use Rattle.paths.specs.Grade.{carried_over, through}
use Rattle.paths.proofs.Turned.{Comes, leads-comes, comes-leads}
use Rattle.walks.specs.Walk.{entry_at, labelled, moves, walk, walk_end}
use Rattle.plans.specs.Plan.{Plan, label_at}
use Rattle.plans.specs.Best.{BestPaths, BestTree}
use Rattle.plans.proofs.Labels.{as_good-equal}
use Rattle.plans.proofs.Labelled.{own_labelled, own_stops, sized_within}
use Rattle.plans.proofs.Grades.{turned_grade, grade-reverse, grade-turned}
use Rattle.plans.proofs.Sound.{Served, Sound}

module _ {K L G : Type 0} (k : Kind K L G) (laws : Laws k.carry k.at_least k.rank) where
  -- a link that offers no better than this offers no better to what is no better
  carried-past : (x y b : L) (g : Option G) → AtLeast k y x → IsSomeAnd (carried_over k y g) (λ z. AtLeast k b z)
      → IsSomeAnd (carried_over k x g) (λ z. AtLeast k b z)
  carried-past x y b None h i = i
  carried-past x y b (Some g) h i = laws.trans _ _ _ i (laws.keeps y x g h)

  past-link : (grades : List G) (o : Option L) (l : ℕ) (y b : L) → IsSomeAnd o (λ x. AtLeast k y x)
      → IsSomeAnd (carried_over k y (slice_get grades l)) (λ z. AtLeast k b z) → IsSomeAnd (through k grades o l) (λ z. AtLeast k b z)
  past-link grades None l y b h i = h
  past-link grades (Some x) l y b h i = carried-past x y b (slice_get grades l) h i

  module _ {t : Table} (star : ForwardStar t) {gateway : ℕ} {grades : List G} {p : Plan L} (s : Sound k t gateway grades p) where
    -- the walk of a labelled station leads from the gateway, where it stops, and its grade is the label
    way-home : (n v : ℕ) → labelled p.entries v ≡ true → walk_end t p.entries n v ≡ gateway
        → Comes t gateway (walk t p.entries n v) v × (turned_grade k grades (walk t p.entries n v) ≡ Some (label_at k p v))
    unfolding walk walk_end
    way-home zero v h e = (e, ap Some (sym (ap (label_at k p) e ∙ s.gate_label)))
    way-home (suc n) v h e = elim (cases_Bool (moves t p.entries v)) [
      | inl m ↦
          let other : v ≢ gateway = λ f. both_ways _ (own_stops p.entries gateway t star.light s.gate_entry) (ap (moves t p.entries) (sym f) ∙ m) in
          let (on, from, hands) = s.entry v h other in
          let back = way-home n (tail_at t (entry_at p.entries v)) from (rw m at e) in
          let into = and_parts _ _ m in
          rw m ((ltb-true _ _ into.0, eqb-true _ _ into.1, back.0), ap (λ o. through k grades o (entry_at p.entries v)) back.1 ∙ hands)
      | inr m ↦ let f = rw m at e in rw m (f, ap Some (sym (ap (label_at k p) f ∙ s.gate_label)))
    ]

    -- a path leads to a label no worse than its grade
    reached : (w : List ℕ) (v : ℕ) → Comes t gateway w v → Served k p v (turned_grade k grades w)
    reached [] v h = (
      subst (λ y. labelled p.entries y ≡ true) (sym h) (own_labelled p.entries gateway s.gate_entry),
      as_good-equal k laws _ _ (ap (label_at k p) h ∙ s.gate_label),
    )
    reached (l ∷ w) v h =
        let r = reached w (tail_at t l) h.2 in
        let on = s.link l h.0 r.0 in
        subst (λ y. Served k p y (turned_grade k grades (l ∷ w))) h.1
        (on.0, past-link grades (turned_grade k grades w) l (label_at k p (tail_at t l)) (label_at k p (head_at t l)) r.1 on.1)

    sound_best : BestPaths k t gateway grades p
    sound_best = record {
      gate = s.gate_entry;
      path = λ v h.
          comes-leads t gateway (walk t p.entries (station_count t) v) v (sized_within t p s.sized v h)
          (way-home (station_count t) v h (s.walk v h)).0;
      grade = λ v h. grade-reverse k grades (walk t p.entries (station_count t) v) ∙ (way-home (station_count t) v h (s.walk v h)).1;
      found = λ v way h. (reached (reverse way) v (leads-comes t gateway way v h)).0;
      best = λ v way h. rw (grade-turned k grades way) (reached (reverse way) v (leads-comes t gateway way v h)).1;
    }

    pub sound_tree : BestTree k t gateway grades p
    sound_tree = record { graded = s.graded; sized = s.sized; station = s.station; paths = sound_best }
