-- A pick answers the oldest station of the bucket that is nearest on the way up, since the search finds the first that is filled.
use Rattle.std.specs.Prelude.{◌≡◌, ℕ, zero, suc, ◌+◌, ◌-◌, ◌<◌, ◌≤◌, Bool, true, false, [], length, Some, None, Option, slice_index_or, refl}
use Rattle.std.proofs.Common.{sym, ap, ◌∙◌, ⊎_elim, arith}
use Rattle.std.specs.Option.{option_or}
use Rattle.std.proofs.lemmas.Bool.{cases_Bool, cases_eq, cases_lt, both_ways, cond-true, cond-false}
use Rattle.std.proofs.lemmas.Bool.Decides.{nat_tests}
use Rattle.buckets.specs.Firsts.{first_from, next_from}
use Rattle.buckets.specs.Rows.{filled}
use Rattle.buckets.specs.Buckets.{BucketRing, picked_at, way_up, Nearest, NearestFirst}
use Rattle.buckets.specs.FirstsLemmas.{first_some, first-fails, next_from-some}
use Rattle.buckets.specs.Without.{held-filled}

module _ (f : ℕ → Bool) where
  -- none before the first that passes does
  first_before : (a n b : ℕ) → first_from f a n ≡ Some b → (k : ℕ) → a ≤ k → k < b → f k ≡ false
  first_before a zero b e k l h = grind arith
  first_before a (suc n) b e k l h =
      ⊎_elim
      (λ (here : f a ≡ true). let same : a ≡ b = cc (cond-true (f a) (Some a) (first_from f (a + 1) n) here) in absurd (omega arith))
      (λ (out : f a ≡ false).
      ⊎_elim
      (λ (at : k ≡ a). ap f at ∙ out)
      (λ (ne : k ≡ a → ⊥). first_before (a + 1) n b (sym (cond-false (f a) (Some a) (first_from f (a + 1) n) out) ∙ e) k (omega arith) h)
      (cases_eq k a))
      (cases_Bool (f a))

  -- no number that passes is nearer on the way up than the one that was found
  next_nearest : (n at b c : ℕ) → at < n → next_from f n at ≡ Some b → c < n → f c ≡ true → way_up n at b ≤ way_up n at c
  unfolding next_from
  next_nearest n at b c l e cl pass = by_way (first_from f at (n - at)) refl e
    where
      -- what fails is not c
      passes : f c ≡ false → ⊥
      passes fails = both_ways (f c) fails pass

      -- by whether the search found it before the turn
      by_way : (o : Option ℕ) → first_from f at (n - at) ≡ o → option_or o (first_from f 0 n) ≡ Some b → way_up n at b ≤ way_up n at c
      by_way (Some x) up e =
          let r = first_some f at (n - at) b (up ∙ e) in
          ⊎_elim
          (λ (before : c < b).
          ⊎_elim
          (λ (round : c < at). grind (arith, nat_tests))
          (λ (above : at ≤ c). absurd (passes (first_before at (n - at) b (up ∙ e) c above before)))
          (cases_lt c at))
          (λ (from : b ≤ c). grind (arith, nat_tests))
          (cases_lt c b)
      by_way None up e =
          let r = first_some f 0 n b e in
          let failing = first-fails f at (n - at) up in
          let turned : c < at = ⊎_elim (λ p. p) (λ (above : at ≤ c). absurd (passes (failing c above (omega arith)))) (cases_lt c at) in
          let round : b < at = ⊎_elim (λ p. p) (λ (above : at ≤ b). absurd (both_ways (f b) (failing b above (omega arith)) r.0)) (cases_lt b at) in
          ⊎_elim
          (λ (before : c < b). absurd (passes (first_before 0 n b e c (omega arith) before)))
          (λ (from : b ≤ c). grind (arith, nat_tests))
          (cases_lt c b)

module _ (m : BucketRing) (x : ℕ) (within : m.last < length m.rows) where
  -- whichever bucket the search found
  nearest_at : (o : Option ℕ) → next_from (λ b. filled (slice_index_or m.rows b [])) (length m.rows) m.last ≡ o → (picked_at m o).0 ≡ Some x → Nearest m x (picked_at m o).1
  nearest_at None e top = cc
  nearest_at (Some b) e top =
      let f : ℕ → Bool = λ b. filled (slice_index_or m.rows b []) in
      record {
        bucket = b;
        within = (next_from-some f (length m.rows) m.last b e (omega arith)).1;
        oldest = top;
        nearest = λ c y l h. next_nearest f (length m.rows) m.last b c within e l (held-filled (slice_index_or m.rows c []) y h);
        next = refl;
      }

pub nearest-first : {A : Type 0} (rank : A → ℕ) → NearestFirst rank
nearest-first rank m ls x within top =
    nearest_at m x within (next_from (λ b. filled (slice_index_or m.rows b [])) (length m.rows) m.last) refl top
