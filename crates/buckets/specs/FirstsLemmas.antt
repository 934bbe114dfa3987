-- The first number that passes a test, from a place on, and round: what tells it, and what it tells.
use Rattle.std.specs.Prelude.{◌≡◌, ℕ, zero, suc, ◌+◌, ◌-◌, ◌<◌, ◌≤◌, Bool, true, false, IfSome, Some, None, Option, if◌then◌else◌}
use Rattle.std.proofs.Math.Path.{refl}
use Rattle.std.proofs.Common.{sym, ap, ◌∙◌, ⊎_elim, arith}
use Rattle.std.proofs.lemmas.Bool.{cases_eq, cases_Bool, cond-true, cond-false}
use Rattle.std.specs.Option.{option_or}
use Rattle.buckets.specs.Firsts.{first_from, next_from}

module _ (f : ℕ → Bool) where
  first-here : (a n : ℕ) → f a ≡ true → first_from f a (suc n) ≡ Some a
  first-here a n e = cond-true _ _ _ e

  first-later : (a n : ℕ) → f a ≡ false → first_from f a (suc n) ≡ first_from f (a + 1) n
  first-later a n e = cond-false _ _ _ e

  pub first_found : (a n b : ℕ) → f b ≡ true → a ≤ b → b < a + n → ((k : ℕ) → a ≤ k → k < b → f k ≡ false) → first_from f a n ≡ Some b
  first_found a zero b here l h below = grind arith
  first_found a (suc n) b here l h below =
      ⊎_elim
      (λ (e : a ≡ b). let at : f a ≡ true = ap f e ∙ here in cc (first-here a n at))
      (λ (ne : a ≡ b → ⊥).
      first-later a n (below a (omega arith) (omega arith)) ∙ first_found (a + 1) n b here (omega arith) (omega arith) (λ k p q. below k (omega arith) q))
      (cases_eq a b)

  pub first-none : (a n : ℕ) → ((k : ℕ) → a ≤ k → k < a + n → f k ≡ false) → first_from f a n ≡ None
  first-none a zero fails = refl
  first-none a (suc n) fails =
      first-later a n (fails a (omega arith) (omega arith)) ∙ first-none (a + 1) n (λ k p q. fails k (omega arith) (omega arith))

  -- what was found passes, and lies in the range
  pub first_some : (a n b : ℕ) → first_from f a n ≡ Some b → (f b ≡ true) × (a ≤ b) × (b < a + n)
  first_some a zero b e = grind arith
  first_some a (suc n) b e =
      ⊎_elim
      (λ (here : f a ≡ true). let same : a ≡ b = cc (first-here a n here) in (ap f (sym same) ∙ here, omega arith, omega arith))
      (λ (out : f a ≡ false). let rest = first_some (a + 1) n b (sym (first-later a n out) ∙ e) in (rest.0, omega arith, omega arith))
      (cases_Bool (f a))

  -- where none was found, none passes
  pub first-fails : (a n : ℕ) → first_from f a n ≡ None → (k : ℕ) → a ≤ k → k < a + n → f k ≡ false
  first-fails a zero e k l h = grind arith
  first-fails a (suc n) e k l h =
      ⊎_elim
      (λ (here : f a ≡ true). cc (first-here a n here))
      (λ (out : f a ≡ false).
      ⊎_elim
      (λ (at : k ≡ a). ap f at ∙ out)
      (λ (ne : k ≡ a → ⊥). first-fails (a + 1) n (sym (first-later a n out) ∙ e) k (omega arith) (omega arith))
      (cases_eq k a))
      (cases_Bool (f a))

  -- numbers that fail at the end change nothing
  pub first-cut : (a m n : ℕ) → m ≤ n → ((k : ℕ) → a + m ≤ k → k < a + n → f k ≡ false) → first_from f a n ≡ first_from f a m
  first-cut a zero n l fails = first-none a n (λ k p q. fails k (omega arith) q)
  first-cut a (suc m) zero l fails = grind arith
  first-cut a (suc m) (suc n) l fails =
      ap (λ o. if f a then Some a else o) (first-cut (a + 1) m n (omega arith) (λ k p q. fails k (omega arith) (omega arith)))

  -- a search that goes round finds a number on the way up, or after the turn, or none
  pub found_up : (n at b : ℕ) → f b ≡ true → at ≤ b → b < n → ((k : ℕ) → at ≤ k → k < b → f k ≡ false) → next_from f n at ≡ Some b
  unfolding next_from
  found_up n at b here l h below = rw (first_found at (n - at) b here l (omega arith) below)

  none-up : (n at : ℕ) → ((k : ℕ) → at ≤ k → k < n → f k ≡ false) → next_from f n at ≡ first_from f 0 n
  unfolding next_from
  none-up n at fails = rw (first-none at (n - at) (λ k p q. fails k p (omega arith)))

  pub found-round : (n at b : ℕ) → ((k : ℕ) → at ≤ k → k < n → f k ≡ false) → f b ≡ true → b < n → ((k : ℕ) → k < b → f k ≡ false) → next_from f n at ≡ Some b
  found-round n at b fails here h below = none-up n at fails ∙ first_found 0 n b here (omega arith) (omega arith) (λ k p q. below k q)

  pub found_none : (n at : ℕ) → ((k : ℕ) → k < n → f k ≡ false) → next_from f n at ≡ None
  found_none n at fails = none-up n at (λ k p q. fails k q) ∙ first-none 0 n (λ k p q. fails k (omega arith))

  pub next_from-some : (n at b : ℕ) → next_from f n at ≡ Some b → at ≤ n → (f b ≡ true) × (b < n)
  unfolding next_from
  next_from-some n at b e l = by_way (first_from f at (n - at)) refl e
    where
      by_way : (o : Option ℕ) → first_from f at (n - at) ≡ o → option_or o (first_from f 0 n) ≡ Some b → (f b ≡ true) × (b < n)
      by_way (Some x) up e = let r = first_some at (n - at) b (up ∙ e) in (r.0, omega arith)
      by_way None up e = let r = first_some 0 n b e in (r.0, omega arith)

  pub next_from-none : (n at : ℕ) → next_from f n at ≡ None → (k : ℕ) → k < n → f k ≡ false
  unfolding next_from
  next_from-none n at e k h = first-fails 0 n (last (first_from f at (n - at)) e) k (omega arith) (omega arith)
    where
      last : (o : Option ℕ) → option_or o (first_from f 0 n) ≡ None → first_from f 0 n ≡ None
      last (Some x) e = cc
      last None e = e

  pub next_from-within : (n at : ℕ) (o : Option ℕ) → o ≡ next_from f n at → at ≤ n → IfSome o (λ b. b < n)
  next_from-within n at None e l = tt
  next_from-within n at (Some b) e l = (next_from-some n at b (sym e) l).1

  pub next_from-cut : (m n at : ℕ) → m ≤ n → at < m → ((k : ℕ) → m ≤ k → k < n → f k ≡ false) → next_from f n at ≡ next_from f m at
  unfolding next_from
  next_from-cut m n at l h fails =
      let up = first-cut at (m - at) (n - at) (omega arith) (λ k p q. fails k (omega arith) (omega arith)) in
      let round = first-cut 0 m n l (λ k p q. fails k (omega arith) (omega arith)) in
      cc

-- tests that agree find the same
module _ (f g : ℕ → Bool) where
  pub first_from-same : (a n : ℕ) → ((k : ℕ) → a ≤ k → k < a + n → f k ≡ g k) → first_from f a n ≡ first_from g a n
  first_from-same a zero same = refl
  first_from-same a (suc n) same =
      let here = same a (omega arith) (omega arith) in
      let rest = first_from-same (a + 1) n (λ k p q. same k (omega arith) (omega arith)) in
      cc

  pub next_from-same : (n at : ℕ) → ((k : ℕ) → k < n → f k ≡ g k) → next_from f n at ≡ next_from g n at
  unfolding next_from
  next_from-same n at same =
      let up = first_from-same at (n - at) (λ k p q. same k (omega arith)) in
      let round = first_from-same 0 n (λ k p q. same k (omega arith)) in
      cc
