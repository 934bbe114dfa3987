-- A queue that is parted by a test, station by station: what was looked at is parted, and the rest stands above what stays.
use Rattle.std.proofs.Common.{◌≡◌, ℕ, ◌+◌, ◌<◌, Bool, true, false, not, ◌&&◌, ◌||◌, List, [], ◌∷◌, ◌++◌, length, take, drop, Some, filter, sym, refl, ap, ◌∙◌, subst, ⊎_elim, append_assoc, arith, if◌then◌else◌, ◌==◌, slice_index}
use Rattle.std.proofs.lemmas.List.{drop_more, take-append-drop, append-nil}
use Rattle.std.proofs.lemmas.List.Elements.{filter_more}
use Rattle.std.proofs.lemmas.Bool.{cases_eq, cases_Bool, cond-true, cond-false, or_from, and_left}
use Rattle.std.proofs.lemmas.Bool.Decides.{nat_tests}
use Rattle.lists.specs.Stations.{holds, proper, top_of, rest_of}
use Rattle.lists.specs.StationsLemmas.{proper-parts}

pub holds-append : (xs ys : List ℕ) (k : ℕ) → holds (xs ++ ys) k ≡ (holds xs k || holds ys k)
holds-append [] ys k = refl
holds-append (x ∷ xs) ys k = let rest = holds-append xs ys k in grind (arith, nat_tests)

-- what a filter keeps
pub holds_kept : (p : ℕ → Bool) (xs : List ℕ) (k : ℕ) → holds (filter p xs) k ≡ (holds xs k && p k)
holds_kept p [] k = refl
holds_kept p (x ∷ xs) k =
    let rest = holds_kept p xs k in
    ⊎_elim
    (λ (pass : p x ≡ true).
    ap (λ l. holds l k) (cond-true (p x) (x ∷ filter p xs) (filter p xs) pass) ∙
    ⊎_elim (λ (e : k ≡ x). let here : p k ≡ true = ap p e ∙ pass in grind (arith, nat_tests)) (λ (ne : k ≡ x → ⊥). grind (arith, nat_tests)) (cases_eq k x))
    (λ (not-kept : p x ≡ false).
    ap (λ l. holds l k) (cond-false (p x) (x ∷ filter p xs) (filter p xs) not-kept) ∙
    ⊎_elim (λ (e : k ≡ x). let here : p k ≡ false = ap p e ∙ not-kept in grind (arith, nat_tests)) (λ (ne : k ≡ x → ⊥). grind (arith, nat_tests)) (cases_eq k x))
    (cases_Bool (p x))

-- a station of a proper list stands in it once
pub once-in : (xs : List ℕ) (x : ℕ) (ys : List ℕ) → proper (xs ++ x ∷ ys) ≡ true → (x < 1024) × (holds xs x ≡ false) × (holds ys x ≡ false)
once-in [] x ys p = let a = proper-parts x ys p in (a.0, refl, a.1)
once-in (y ∷ xs) x ys p =
    let a = proper-parts y (xs ++ x ∷ ys) p in
    let rest = once-in xs x ys a.2 in
    let out : (holds xs y || holds (x ∷ ys) y) ≡ false = sym (holds-append xs (x ∷ ys) y) ∙ a.1 in
    let apart : (x == y) ≡ false = grind (arith, nat_tests) in
    (rest.0, grind (arith, nat_tests), rest.2)

module _ (line : List ℕ) (i : ℕ) (within : i < length line) where
  -- the list, cut at place i
  pub cut_at : line ≡ take i line ++ slice_index line i ∷ drop (i + 1) line
  cut_at = sym (take-append-drop i line) ∙ ap (λ r. take i line ++ r) (drop_more line i 0 within)

  pub below_at : proper line ≡ true → (slice_index line i < 1024) × (holds (take i line) (slice_index line i) ≡ false) × (holds (drop (i + 1) line) (slice_index line i) ≡ false)
  below_at p = once-in (take i line) (slice_index line i) (drop (i + 1) line) (ap proper (sym cut_at) ∙ p)

  module _ (p q : ℕ → Bool) (other : (x : ℕ) → q x ≡ not (p x)) (queue : List ℕ) (is : queue ≡ drop i line ++ filter q (take i line)) where
    pub next-top : top_of queue ≡ top_of (slice_index line i ∷ [])
    next-top = ap top_of (is ∙ ap (λ r. r ++ filter q (take i line)) (drop_more line i 0 within))

    pub next-rest : rest_of queue ≡ drop (i + 1) line ++ filter q (take i line)
    next-rest = ap rest_of (is ∙ ap (λ r. r ++ filter q (take i line)) (drop_more line i 0 within))

    -- the station x on top is the next of the line
    module _ (x : ℕ) (top : Some x ≡ top_of queue) where
      pub next-is : slice_index line i ≡ x
      next-is = let up = next-top in cc

      below-is : proper line ≡ true → (x < 1024) × (holds (take i line) x ≡ false) × (holds (drop (i + 1) line) x ≡ false)
      below-is ok =
          let P : ℕ → Type 0 = λ y. (y < 1024) × (holds (take i line) y ≡ false) × (holds (drop (i + 1) line) y ≡ false) in
          subst P next-is (below_at ok)

      more : (r : ℕ → Bool) → filter r (take (i + 1) line) ≡ filter r (take i line) ++ (if r x then x ∷ [] else [])
      more r = filter_more r line i 0 within ∙ ap (λ y. filter r (take i line) ++ (if r y then y ∷ [] else [])) next-is

      kept_more : (r : ℕ → Bool) → r x ≡ true → filter r (take (i + 1) line) ≡ filter r (take i line) ++ x ∷ []
      kept_more r pass = more r ∙ ap (λ l. filter r (take i line) ++ l) (cond-true (r x) (x ∷ []) [] pass)

      left-more : (r : ℕ → Bool) → r x ≡ false → filter r (take (i + 1) line) ≡ filter r (take i line)
      left-more r fails = more r ∙ ap (λ l. filter r (take i line) ++ l) (cond-false (r x) (x ∷ []) [] fails) ∙ append-nil (filter r (take i line))

      -- it passes, and joins what was moved; the rest stays above what stays
      pub part-over : p x ≡ true → (filter p (take i line) ++ x ∷ [] ≡ filter p (take (i + 1) line)) × (rest_of queue ≡ drop (i + 1) line ++ filter q (take (i + 1) line))
      part-over pass =
          (sym (kept_more p pass), next-rest ∙ ap (λ r. drop (i + 1) line ++ r) (sym (left-more q (other x ∙ ap not pass))))

      -- or it does not, and goes to the bottom of what stays
      pub part_stays : p x ≡ false → (filter p (take i line) ≡ filter p (take (i + 1) line)) × (rest_of queue ++ x ∷ [] ≡ drop (i + 1) line ++ filter q (take (i + 1) line))
      part_stays fails = (
        sym (left-more p fails),
        ap (λ r. r ++ x ∷ []) next-rest ∙ append_assoc (drop (i + 1) line) (filter q (take i line)) (x ∷ []) ∙
            ap (λ r. drop (i + 1) line ++ r) (sym (kept_more q (other x ∙ ap not fails))),
      )

      -- it is in neither queue meanwhile
      pub out-of-moved : proper line ≡ true → (x < 1024) × (holds (filter p (take i line)) x ≡ false)
      out-of-moved ok = ((below-is ok).0, holds_kept p (take i line) x ∙ and_left _ _ (below-is ok).1)

      -- (nothing cites it today)
      pub out-of-rest : proper line ≡ true → (x < 1024) × (holds (rest_of queue) x ≡ false)
      out-of-rest ok = (
        (below-is ok).0,
        ap (λ l. holds l x) next-rest ∙ holds-append (drop (i + 1) line) (filter q (take i line)) x ∙
            or_from _ _ (below-is ok).2 (holds_kept q (take i line) x ∙ and_left _ _ (below-is ok).1),
      )
