-- Members of lists, and lists without repeats.
use Rattle.std.proofs.Common.{true, false, eqb, ◌≡◌, ℕ, ◌<◌, ◌≤◌, ◌⊎◌, List, [], ◌∷◌, ◌++◌, map, reverse, length, sym, refl, ap, subst, inl, inr, ⊎_elim}
use mathlib.Core.List.{reverse_aux}
use Rattle.std.proofs.lemmas.Bool.{ne_eqb, or_cases, eqb-true}
use Rattle.std.proofs.lemmas.Map.Steps.{length-le_from_distinct_below}
use Rattle.std.specs.List.{AllByRecursion, IsDistinct, list_any}
use Rattle.paths.specs.Lists.{In, NoDup}

module _ {A : Type 0} where
  -- members of a sum of lists
  pub in_left : (x : A) (xs ys : List A) → In x xs → In x (xs ++ ys)
  in_left x [] ys i = elim i [ ]
  in_left x (y ∷ xs) ys (inl e) = inl e
  in_left x (y ∷ xs) ys (inr i) = inr (in_left x xs ys i)

  pub in_right : (x : A) (xs ys : List A) → In x ys → In x (xs ++ ys)
  in_right x [] ys i = i
  in_right x (y ∷ xs) ys i = inr (in_right x xs ys i)

  pub append-in : (x : A) (xs ys : List A) → In x (xs ++ ys) → In x xs ⊎ In x ys
  append-in x [] ys i = inr i
  append-in x (y ∷ xs) ys (inl e) = inl (inl e)
  append-in x (y ∷ xs) ys (inr i) = elim (append-in x xs ys i) [ inl j ↦ inl (inr j) | inr j ↦ inr j ]

  pub nodup_append : (xs ys : List A) → NoDup xs → NoDup ys → ((z : A) → In z xs → In z ys → ⊥) → NoDup (xs ++ ys)
  nodup_append [] ys d e apart = e
  nodup_append (x ∷ xs) ys d e apart = (
    λ i. ⊎_elim d.0 (apart x (inl refl)) (append-in x xs ys i),
    nodup_append xs ys d.1 e (λ z i j. apart z (inr i) j),
  )

  -- a list turned round repeats nothing that it did not repeat before
  nodup-onto : (xs ys : List A) → NoDup xs → NoDup ys → ((z : A) → In z xs → In z ys → ⊥) → NoDup (reverse_aux xs ys)
  nodup-onto [] ys d e apart = e
  nodup-onto (x ∷ xs) ys d e apart =
      nodup-onto xs (x ∷ ys) d.1 (apart x (inl refl), e)
      (λ z i j. elim j [ inl f ↦ d.0 (subst (λ w. In w xs) f i) | inr k ↦ apart z (inr i) k ])

  pub nodup_reverse : (xs : List A) → NoDup xs → NoDup (reverse xs)
  nodup_reverse xs d = nodup-onto xs [] d tt (λ z i j. j)

-- members of a list mapped
module _ {A B : Type 0} (f : A → B) where
  pub in_map : (x : A) (xs : List A) → In x xs → In (f x) (map f xs)
  in_map x [] i = elim i [ ]
  in_map x (y ∷ xs) (inl e) = inl (ap f e)
  in_map x (y ∷ xs) (inr i) = inr (in_map x xs i)

  pub map-in : (z : B) (xs : List A) → In z (map f xs) → (x : A) × In x xs × (z ≡ f x)
  map-in z [] i = elim i [ ]
  map-in z (y ∷ xs) (inl e) = (y, inl refl, e)
  map-in z (y ∷ xs) (inr i) = let r = map-in z xs i in (r.0, inr r.1, r.2)

  pub nodup-map : ((x y : A) → f x ≡ f y → x ≡ y) → (xs : List A) → NoDup xs → NoDup (map f xs)
  nodup-map inj [] d = tt
  nodup-map inj (x ∷ xs) d = (
    λ i. let r = map-in (f x) xs i in d.0 (subst (λ w. In w xs) (sym (inj x r.0 r.2)) r.1),
    nodup-map inj xs d.1,
  )

-- the same of numbers, in the library's words
apart : (x : ℕ) (ys : List ℕ) → (In x ys → ⊥) → AllByRecursion (λ y. eqb x y ≡ false) ys
apart x [] out = tt
apart x (y ∷ ys) out = (ne_eqb x y (λ e. out (inl e)), apart x ys (λ i. out (inr i)))

distinct : (xs : List ℕ) → NoDup xs → IsDistinct eqb xs
unfolding IsDistinct
distinct [] d = tt
distinct (x ∷ xs) d = (apart x xs d.0, distinct xs d.1)

any-in : (x : ℕ) (ys : List ℕ) → list_any (eqb x) ys ≡ true → In x ys
any-in x [] e = absurd cc
any-in x (y ∷ ys) e = elim (or_cases (eqb x y) _ e) [ inl f ↦ inl (eqb-true x y f) | inr f ↦ inr (any-in x ys f) ]

-- a list of different numbers below n is no longer than n
pub few-below : (n : ℕ) (xs : List ℕ) → NoDup xs → ((x : ℕ) → In x xs → x < n) → length xs ≤ n
few-below n xs d h = length-le_from_distinct_below xs n (distinct xs d) (λ x e. h x (any-in x xs e))
