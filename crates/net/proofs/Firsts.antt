-- When `first_below` answers what, and what its answer says.
use Rattle.std.proofs.Common.{◌≡◌, ℕ, zero, suc, ◌<◌, Bool, true, false, ◌⊎◌, Some, None, refl, inl, inr, arith}
use Rattle.std.proofs.lemmas.Bool.{cases_lt, cases_Bool}
use borrow.Author.Count.{below_more}
use Rattle.net.specs.First.{first_below}

-- none of the first n passes
abbrev pub NoneBelow : (ℕ → Bool) → ℕ → Type 0
NoneBelow p n = (k : ℕ) → k < n → p k ≡ false

-- nor the next: none of one more
below_suc : (p : ℕ → Bool) (n : ℕ) → NoneBelow p n → p n ≡ false → NoneBelow p (suc n)
below_suc p n h f k l = below_more (λ j. p j ≡ false) n h f k (omega arith)

-- none passes: the answer is none
pub none_is : (p : ℕ → Bool) (n : ℕ) → NoneBelow p n → first_below p n ≡ None
unfolding first_below
none_is p zero h = refl
none_is p (suc n) h = rw (none_is p n (λ k l. h k (omega arith)), h n (omega arith))

-- k passes, and none before it: the answer is k
pub first-is : (p : ℕ → Bool) (n k : ℕ) → k < n → p k ≡ true → NoneBelow p k → first_below p n ≡ Some k
unfolding first_below
first-is p zero k l t h = absurd (omega arith)
first-is p (suc n) k l t h =
    elim (cases_lt k n) [
      | inl m ↦ rw (first-is p n k m t h)
      | inr m ↦ let e : k ≡ n = omega arith in rw (← e, none_is p k h, t)
    ]

-- either none passes and the answer is none, or the answer is the first that does
pub first-tells : (p : ℕ → Bool) (n : ℕ)
    → (NoneBelow p n × (first_below p n ≡ None))
    ⊎ ((k : ℕ) × (k < n) × (p k ≡ true) × NoneBelow p k × (first_below p n ≡ Some k))
unfolding first_below
first-tells p zero = inl (λ k l. absurd (omega arith), refl)
first-tells p (suc n) =
    elim (first-tells p n) [
      | inr (k, l, t, h, e) ↦ inr (k, omega arith, t, h, rw e)
      | inl (h, e) ↦
          elim (cases_Bool (p n)) [
            | inl t ↦ inr (n, omega arith, t, h, rw (e, t))
            | inr f ↦ inl (below_suc p n h f, rw (e, f))
          ]
    ]

-- the answer is none: none passes
pub none-says : (p : ℕ → Bool) (n : ℕ) → first_below p n ≡ None → NoneBelow p n
none-says p n e =
    elim (first-tells p n) [
      | inl (h, _) ↦ h
      | inr (k, l, t, h, d) ↦ absurd cc
    ]
