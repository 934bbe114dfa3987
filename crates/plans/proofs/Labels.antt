-- The order of labels, and what carrying over a link makes of it, where a link may have no grade.
use Rattle.std.proofs.Common.{◌≡◌, Some, None, Option, refl, ap₂, ◌∙◌, subst, ⊎_elim}
use Rattle.kinds.specs.declared.kind.Kind.{Ghosts as Kind}
use Rattle.kinds.specs.Laws.{Laws}
use Rattle.kinds.specs.Order.{AtLeast}
use Rattle.paths.specs.Grade.{carried_over}

module _ {K L G : Type 0} (k : Kind K L G) (laws : Laws k.carry k.at_least k.rank) where
  pub as_good-same : (x : L) → AtLeast k x x
  as_good-same x = ⊎_elim (λ h. h) (λ h. h) (laws.total x x)

  pub as_good-equal : (x y : L) → x ≡ y → AtLeast k x y
  as_good-equal x y e = subst (λ z. AtLeast k x z) e (as_good-same x)

  -- a link never improves a label
  pub carried-worse : (x : L) (g : Option G) (a : L) → carried_over k x g ≡ Some a → AtLeast k x a
  carried-worse x None a e = absurd cc
  carried-worse x (Some g) a e = let f : k.carry x g ≡ a = cc in subst (λ z. AtLeast k x z) f (laws.worsens x g)

  -- and keeps the order of two
  pub carried-better : (x y : L) (g : Option G) (a : L) → AtLeast k y x → carried_over k x g ≡ Some a
      → (b : L) × (carried_over k y g ≡ Some b) × AtLeast k b a
  carried-better x y None a h e = absurd cc
  carried-better x y (Some g) a h e =
      let f : k.carry x g ≡ a = cc in
      (k.carry y g, refl, subst (λ z. AtLeast k (k.carry y g) z) f (laws.keeps y x g h))

-- between equal labels
pub as_good_at : {K L G : Type 0} (k : Kind K L G) {x y v w : L} → v ≡ x → w ≡ y → AtLeast k x y → AtLeast k v w
as_good_at k e f h = ap₂ k.at_least e f ∙ h
