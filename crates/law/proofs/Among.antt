-- Members of a list, the tests of its elements, and what stands in it after a write.
use Rattle.std.proofs.Common.{◌≡◌, ℕ, zero, suc, ◌<◌, Bool, true, false, ◌≢◌, ◌==◌, List, [], ◌∷◌, length, reverse, filter, Some, slice_set, ◌⊎◌, refl, sym, ap, ◌∙◌, subst, inl, inr, arith}
use mathlib.Core.List.{reverse_aux}
use Rattle.std.specs.List.{slice_get, list_any}
use Rattle.std.proofs.lemmas.Bool.{both_ways, cond_both, cond-true, or_parts, or_cases, eqb-true}
use Rattle.paths.specs.Lists.{In}

module _ {A : Type 0} where
  in-onto : (x : A) (xs ys : List A) → In x xs ⊎ In x ys → In x (reverse_aux xs ys)
  in-onto x [] ys (inl i) = elim i [ ]
  in-onto x [] ys (inr i) = i
  in-onto x (y ∷ xs) ys (inl (inl e)) = in-onto x xs (y ∷ ys) (inr (inl e))
  in-onto x (y ∷ xs) ys (inl (inr i)) = in-onto x xs (y ∷ ys) (inl i)
  in-onto x (y ∷ xs) ys (inr i) = in-onto x xs (y ∷ ys) (inr (inr i))

  pub in_reverse : (x : A) (xs : List A) → In x xs → In x (reverse xs)
  in_reverse x xs i = in-onto x xs [] (inl i)

  module _ (p : A → Bool) where
    -- where no element passes, this one does not
    pub none-in : (xs : List A) (x : A) → list_any p xs ≡ false → In x xs → p x ≡ false
    none-in [] x h i = elim i [ ]
    none-in (y ∷ xs) x h (inl e) = ap p e ∙ (or_parts _ _ h).0
    none-in (y ∷ xs) x h (inr i) = none-in xs x (or_parts _ _ h).1 i

    pub in_filter : (xs : List A) (x : A) → In x xs → p x ≡ true → In x (filter p xs)
    in_filter [] x i h = elim i [ ]
    in_filter (y ∷ xs) x (inl e) h = subst (λ r. In x r) (sym (cond-true _ _ _ (ap p (sym e) ∙ h))) (inl e)
    in_filter (y ∷ xs) x (inr i) h =
        cond_both (p y) (y ∷ filter p xs) (filter p xs) (λ r. In x r) (λ _. inr (in_filter xs x i h)) (λ _. in_filter xs x i h)

    pub filter-in : (xs : List A) (x : A) → In x (filter p xs) → In x xs
    filter-in [] x = λ i. i
    filter-in (y ∷ xs) x = cond_both (p y) (y ∷ filter p xs) (filter p xs) (λ r. In x r → In x (y ∷ xs))
        (λ _ i. elim i [ inl e ↦ inl e | inr j ↦ inr (filter-in xs x j) ])
        (λ _ i. inr (filter-in xs x i))

-- the test for one number
pub any-in : (x : ℕ) (xs : List ℕ) → list_any (λ y. y == x) xs ≡ true → In x xs
any-in x [] h = absurd (both_ways false refl h)
any-in x (y ∷ xs) h = elim (or_cases _ _ h) [ inl e ↦ inl (sym (eqb-true y x e)) | inr k ↦ inr (any-in x xs k) ]

pub slice_get-set_same : {X : Type 0} (xs : List X) (i : ℕ) (y : X) → i < length xs → slice_get (slice_set xs i y) i ≡ Some y
slice_get-set_same [] i y h = absurd (omega arith)
slice_get-set_same (x ∷ xs) zero y h = refl
slice_get-set_same (x ∷ xs) (suc i) y h = slice_get-set_same xs i y (omega arith)

pub slice_get-set_other : {X : Type 0} (xs : List X) (i j : ℕ) (y : X) → j ≢ i → slice_get (slice_set xs i y) j ≡ slice_get xs j
slice_get-set_other [] i j y h = refl
slice_get-set_other (x ∷ xs) zero zero y h = absurd (h refl)
slice_get-set_other (x ∷ xs) zero (suc j) y h = refl
slice_get-set_other (x ∷ xs) (suc i) zero y h = refl
slice_get-set_other (x ∷ xs) (suc i) (suc j) y h = slice_get-set_other xs i j y (λ e. h (ap suc e))
