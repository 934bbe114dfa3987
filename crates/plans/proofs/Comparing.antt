-- What the tests of labels and of what is offered tell.
use Rattle.std.proofs.Common.{◌≡◌, ℕ, true, false, Some, None, Option, sym, refl, ap, ◌∙◌, inl, inr}
use Rattle.std.proofs.lemmas.Bool.{both_ways, and_parts, and_from, and_cases, and_right, or_parts, or_from, not-false, not_from_true}
use Rattle.kinds.specs.declared.kind.Kind.{Ghosts as Kind}
use Rattle.kinds.specs.Laws.{Laws}
use Rattle.kinds.specs.Order.{AtLeast}
use Rattle.plans.specs.Plan.{Plan, label_at, better}
use Rattle.plans.specs.Offers.{welcomes_offer}
use Rattle.plans.specs.Faults.{same, offers_just}
use Rattle.plans.proofs.Labels.{as_good-equal}
use Rattle.plans.proofs.Sound.{Served}

module _ {K L G : Type 0} (k : Kind K L G) (laws : Laws k.carry k.at_least k.rank) where
  pub same_is : (a b : L) → same k a b ≡ true → a ≡ b
  same_is a b h = let (x, y) = and_parts _ _ h in laws.antisym a b x y

  pub is_same : (a b : L) → a ≡ b → same k a b ≡ true
  is_same a b e = and_from _ _ (as_good-equal k laws a b e) (as_good-equal k laws b a (sym e))

  pub just_is : (o : Option L) (a : L) → offers_just k o a ≡ true → o ≡ Some a
  just_is None a h = absurd (both_ways _ refl h)
  just_is (Some b) a h = ap Some (same_is b a h)

  pub is_just : (o : Option L) (a : L) → o ≡ Some a → offers_just k o a ≡ true
  is_just o a e = ap (λ x. offers_just k x a) e ∙ is_same a a refl

  not-better : (a b : L) → better k a b ≡ false → AtLeast k b a
  not-better a b h = elim (and_cases _ _ h) [
    | inl e ↦ elim (laws.total a b) [ inl f ↦ absurd (both_ways _ e f) | inr f ↦ f ]
    | inr e ↦ not-false _ e
  ]

  module _ (p : Plan L) (v : ℕ) where
    -- who welcomes no label that is offered has one, and none that is worse
    pub declined : (o : Option L) (a : L) → o ≡ Some a → welcomes_offer k p v o ≡ false → Served k p v o
    declined None a e h = absurd cc
    declined (Some b) a e h = let (x, y) = or_parts _ _ h in (not-false _ x, not-better b (label_at k p v) y)

    pub declines : (o : Option L) → Served k p v o → welcomes_offer k p v o ≡ false
    declines None h = refl
    declines (Some b) h = or_from _ _ (not_from_true _ h.0) (and_right _ _ (not_from_true _ h.1))
