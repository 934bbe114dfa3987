-- A list without repeats is no longer than a list that holds all its members.
use Rattle.std.proofs.Common.{◌≡◌, suc, ◌≤◌, ◌≢◌, List, [], ◌∷◌, length, refl, sym, ap, ◌∙◌, subst, inl, inr, arith}
use Rattle.paths.specs.Lists.{In, NoDup}

module _ {A : Type 0} where
  -- the list without the place that m shows
  abbrev out : (x : A) (ys : List A) → In x ys → List A
  out x [] m = elim m [ ]
  out x (y ∷ ys) (inl e) = ys
  out x (y ∷ ys) (inr m) = y ∷ out x ys m

  length-out : (x : A) (ys : List A) (m : In x ys) → length ys ≡ suc (length (out x ys m))
  length-out x [] m = elim m [ ]
  length-out x (y ∷ ys) (inl e) = refl
  length-out x (y ∷ ys) (inr m) = ap suc (length-out x ys m)

  in-out : (x z : A) (ys : List A) (m : In x ys) → In z ys → z ≢ x → In z (out x ys m)
  in-out x z [] m i ne = elim m [ ]
  in-out x z (y ∷ ys) (inl e) (inl f) ne = absurd (ne (f ∙ sym e))
  in-out x z (y ∷ ys) (inl e) (inr i) ne = i
  in-out x z (y ∷ ys) (inr m) (inl f) ne = inl f
  in-out x z (y ∷ ys) (inr m) (inr i) ne = inr (in-out x z ys m i ne)

  pub pigeons : (xs ys : List A) → NoDup xs → ((z : A) → In z xs → In z ys) → length xs ≤ length ys
  pigeons [] ys once h = omega arith
  pigeons (x ∷ xs) ys once h =
      let m : In x ys = h x (inl refl) in
      let fewer = pigeons xs (out x ys m) once.1 (λ z i. in-out x z ys m (h z (inr i)) (λ e. once.0 (subst (λ w. In w xs) e i))) in
      omega (arith, length-out x ys m)
