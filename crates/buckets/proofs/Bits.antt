-- The bits of a word of 64, and where its lowest set bit stands.
use Rattle.std.proofs.Common.{◌≡◌, ℕ, ◌+◌, ◌-◌, ◌*◌, ◌/◌, ◌%◌, ◌^◌, ◌<◌, ◌≤◌, true, false, not, ◌&&◌, ◌||◌, ◌==◌, Some, None, w64, sym, ap, ◌∙◌, ⊎_elim, lt_of_lt_of_le, arith, pow_mono}
use native.Mathlib.Nat.{div-eq_of_lt}
use Rattle.std.specs.Prelude.{bit_and, bit_or}
use Rattle.std.specs.Int.{bit_at, trailing_zeros}
use Rattle.std.proofs.lemmas.Nat.{shr_le, shr-shr}
use Rattle.std.proofs.lemmas.Nat.Bits.{bit_at-zero, bit_at_and, bit_at_set_same, bit_at_set_other, bit_at_clear_same, bit_at_clear_other, bit_at-trailing_zeros}
use Rattle.std.proofs.lemmas.Bool.{eq-eqb, ne_eqb, both_ways, cases_eq, cases_lt, or_left, and_left, and_right}
use Rattle.std.proofs.lemmas.Bool.Decides.{nat_tests}
use Rattle.buckets.specs.Sets.{has_bit}
use Rattle.buckets.specs.Firsts.{next_from}
use Rattle.buckets.specs.FirstsLemmas.{found_up, found-round, found_none}

pub bit-shr : (w a j : ℕ) → has_bit (w / 2 ^ a) j ≡ has_bit w (a + j)
unfolding has_bit
bit-shr w a j = ap (λ n. n % 2 == 1) (shr-shr w a j)

pub bit-none : (k : ℕ) → has_bit 0 k ≡ false
unfolding has_bit
bit-none k = ap (λ d. d == 1) (bit_at-zero k)

-- a word has none from 64 on
high-zero : (w k : ℕ) → w < 2 ^ 64 → 64 ≤ k → bit_at w k ≡ 0
high-zero w k h l = ap (λ n. n % 2) (div-eq_of_lt (lt_of_lt_of_le h (pow_mono l)))

pub bit_high : (w k : ℕ) → w < 2 ^ 64 → 64 ≤ k → has_bit w k ≡ false
unfolding has_bit
bit_high w k h l = ap (λ d. d == 1) (high-zero w k h l)

pub bit_below : (w k : ℕ) → w < 2 ^ 64 → has_bit w k ≡ true → k < 64
bit_below w k h e = ⊎_elim (λ l. l) (λ l. absurd (both_ways (has_bit w k) (bit_high w k h l) e)) (cases_lt k 64)

-- one bit more, and one bit less
module _ (w b : ℕ) (in-word : b < 64) where
  pub bit_added : (k : ℕ) → has_bit (bit_or w (1 * 2 ^ b % 2 ^ 64)) k ≡ (k == b || has_bit w k)
  unfolding has_bit
  bit_added k =
      ⊎_elim
      (λ (e : k ≡ b). ap (has_bit (bit_or w (1 * 2 ^ b % 2 ^ 64))) e ∙ ap (λ d. d == 1) (bit_at_set_same w64 w b in-word) ∙ sym (or_left _ _ (eq-eqb k b e)))
      (λ (ne : k ≡ b → ⊥). ap (λ d. d == 1) (bit_at_set_other w64 w b in-word k ne) ∙ sym (ap (λ t. t || has_bit w k) (ne_eqb k b ne)))
      (cases_eq k b)

  pub bit-taken : w < 2 ^ 64 → (k : ℕ) → has_bit (bit_and w ((2 ^ 64 - 1) - 1 * 2 ^ b % 2 ^ 64)) k ≡ (has_bit w k && not (k == b))
  unfolding has_bit
  bit-taken fits k =
      ⊎_elim
      (λ (e : k ≡ b). ap (has_bit (bit_and w ((2 ^ 64 - 1) - 1 * 2 ^ b % 2 ^ 64))) e ∙ ap (λ d. d == 1) (bit_at_clear_same w64 w b in-word) ∙ sym (and_right _ _ (ap not (eq-eqb k b e))))
      (λ (ne : k ≡ b → ⊥).
      let apart = ne_eqb k b ne in
      ⊎_elim
      (λ (l : k < 64). let kept = ap (λ d. d == 1) (bit_at_clear_other w64 w b in-word k l ne) in grind (arith, nat_tests))
      (λ (g : 64 ≤ k).
      let none : bit_at (bit_and w ((2 ^ 64 - 1) - 1 * 2 ^ b % 2 ^ 64)) k ≡ 0 = omega (arith, high-zero w k fits g, bit_at_and w ((2 ^ 64 - 1) - 1 * 2 ^ b % 2 ^ 64) k) in
      ap (λ d. d == 1) none ∙ sym (and_left _ _ (bit_high w k fits g)))
      (cases_lt k 64))
      (cases_eq k b)

-- the lowest set bit
module _ (w : ℕ) (some : 0 < w) (fits : w < 2 ^ 64) where
  lowest-is : has_bit w (trailing_zeros w64 w) ≡ true
  unfolding has_bit
  lowest-is = ap (λ d. d == 1) (bit_at-trailing_zeros w64 w some fits).1

  lowest-below : (j : ℕ) → j < trailing_zeros w64 w → has_bit w j ≡ false
  unfolding has_bit
  lowest-below j l = ap (λ d. d == 1) ((bit_at-trailing_zeros w64 w some fits).2 j l)

-- what a search from `at` on finds among the bits of a word
module _ (w at : ℕ) (fits : w < 2 ^ 64) where
  from_at : (k : ℕ) → at ≤ k → has_bit w k ≡ has_bit (w / 2 ^ at) (k - at)
  from_at k l = let e : k ≡ at + (k - at) = omega arith in ap (has_bit w) e ∙ sym (bit-shr w at (k - at))

  pub next-high : 0 < w / 2 ^ at → next_from (has_bit w) 64 at ≡ Some (at + trailing_zeros w64 (w / 2 ^ at))
  next-high p =
      let small : w / 2 ^ at < 2 ^ 64 = omega (arith, shr_le w at) in
      let here = sym (bit-shr w at (trailing_zeros w64 (w / 2 ^ at))) ∙ lowest-is (w / 2 ^ at) p small in
      found_up (has_bit w) 64 at _ here (omega arith) (bit_below w _ fits here) (λ k l h. from_at k l ∙ lowest-below (w / 2 ^ at) p small (k - at) (omega arith))

  pub next_low : w / 2 ^ at ≡ 0 → 0 < w → next_from (has_bit w) 64 at ≡ Some (trailing_zeros w64 w)
  next_low e p =
      found-round (has_bit w) 64 at _ (λ k l h. from_at k l ∙ ap (λ v. has_bit v (k - at)) e ∙ bit-none (k - at)) (lowest-is w p fits) (bit_at-trailing_zeros w64 w p fits).0 (lowest-below w p fits)

  pub next-empty : w ≡ 0 → next_from (has_bit w) 64 at ≡ None
  next-empty e = found_none (has_bit w) 64 at (λ k h. ap (λ v. has_bit v k) e ∙ bit-none k)
