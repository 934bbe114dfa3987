-- Lists of stations: what one more, or one less, makes of what is held, and how many are held.
use Rattle.std.specs.Prelude.{◌≡◌, ℕ, ◌<◌, Bool, true, false, not, ◌&&◌, ◌||◌, List, [], ◌∷◌, ◌++◌, length, ◌==◌, nat_lt, slice_index_or, slice_set, refl}
use Rattle.std.proofs.Common.{sym, ap, ◌∙◌, ⊎_elim, arith, get_or-set_same, get_or-set_other}
use Rattle.std.proofs.lemmas.Bool.{cases_eq, eq-eqb, ne_eqb, and_parts, not-true, ltb-true, or_right}
use Rattle.std.proofs.lemmas.Bool.Decides.{nat_tests}
use Rattle.lists.specs.Meaning.{count_below}
use Rattle.lists.specs.Stations.{holds, proper, rest_of}
use Rattle.lists.specs.Counts.{count_none, count-one, count_most}

pub holds-push : (xs : List ℕ) (x k : ℕ) → holds (xs ++ x ∷ []) k ≡ (k == x || holds xs k)
holds-push [] x k = refl
holds-push (y ∷ ys) x k = let rest = holds-push ys x k in grind (arith, nat_tests)

pub holds-head : (x : ℕ) (xs : List ℕ) → holds (x ∷ xs) x ≡ true
holds-head x xs = ap (λ b. b || holds xs x) (eq-eqb x x refl)

pub proper-parts : (x : ℕ) (xs : List ℕ) → proper (x ∷ xs) ≡ true → (x < 1024) × (holds xs x ≡ false) × (proper xs ≡ true)
proper-parts x xs p =
    let a = and_parts (nat_lt x 1024) (not (holds xs x) && proper xs) p in
    let b = and_parts (not (holds xs x)) (proper xs) a.1 in
    (ltb-true x 1024 a.0, not-true (holds xs x) b.0, b.1)

pub proper-top : (x : ℕ) (xs : List ℕ) → proper xs ≡ true → x < 1024 → holds xs x ≡ false → proper (x ∷ xs) ≡ true
proper-top x xs p b out = grind (arith, nat_tests)

pub proper-push : (xs : List ℕ) (x : ℕ) → proper xs ≡ true → x < 1024 → holds xs x ≡ false → proper (xs ++ x ∷ []) ≡ true
proper-push [] x p b out = grind (arith, nat_tests)
proper-push (y ∷ ys) x p b out =
    let held = holds-push ys x y in
    let a = proper-parts y ys p in
    let parts : ((x == y) ≡ false) × (holds ys x ≡ false) = grind (arith, nat_tests) in
    let rest = proper-push ys x a.2 b parts.1 in
    grind (arith, nat_tests)

pub holds-below : (xs : List ℕ) (k : ℕ) → proper xs ≡ true → holds xs k ≡ true → k < 1024
holds-below [] k p h = let z : ◌≡◌ {A = ℕ} 0 1 = cc in omega arith
holds-below (y ∷ ys) k p h =
    let a = proper-parts y ys p in
    ⊎_elim (λ (e : k ≡ y). omega (arith, a.0)) (λ (ne : k ≡ y → ⊥). holds-below ys k a.2 (grind (arith, nat_tests))) (cases_eq k y)

pub in-rest : (xs : List ℕ) (k : ℕ) → holds (rest_of xs) k ≡ true → holds xs k ≡ true
in-rest [] k h = h
in-rest (x ∷ xs) k h = or_right (k == x) (holds xs k) h

-- the rest holds what the whole does, but for the top
pub holds-rest : (x : ℕ) (xs : List ℕ) (k : ℕ) → proper (x ∷ xs) ≡ true → holds xs k ≡ (holds (x ∷ xs) k && not (k == x))
holds-rest x xs k p =
    let gone : holds xs x ≡ false = (proper-parts x xs p).1 in
    ⊎_elim
    (λ (eq : k ≡ x). let there : holds xs k ≡ false = ap (holds xs) eq ∙ gone in grind (arith, nat_tests))
    (λ (ne : k ≡ x → ⊥). grind (arith, nat_tests))
    (cases_eq k x)

-- a proper list has as many stations as it holds
pub count-holds : (xs : List ℕ) → proper xs ≡ true → count_below (holds xs) 1024 ≡ length xs
count-holds [] p = count_none (holds []) 1024 (λ k. refl)
count-holds (y ∷ ys) p =
    let a = proper-parts y ys p in
    let rest = count-holds ys a.2 in
    omega (arith, count-one (holds ys) (holds (y ∷ ys)) y 1024 a.1 (λ k. refl) a.0)

-- where a station is missing, there is room for it
pub room : (xs : List ℕ) (x : ℕ) → proper xs ≡ true → x < 1024 → holds xs x ≡ false → length xs < 1024
room xs x p b out =
    omega (arith, count-holds xs p, count-one (holds xs) (holds (x ∷ xs)) x 1024 out (λ k. refl) b, count_most (holds (x ∷ xs)) 1024)

-- marks that tell of each station whether f holds of it, after one mark was set or taken away
module _ (marks : List Bool) (f g : ℕ → Bool) (x : ℕ) (xb : x < length marks) (tell : (k : ℕ) → k < 1024 → slice_index_or marks k false ≡ f k) where
  pub marked-in : ((k : ℕ) → g k ≡ (k == x || f k)) → (k : ℕ) → k < 1024 → slice_index_or (slice_set marks x true) k false ≡ g k
  marked-in e k kb =
      ⊎_elim
      (λ (eq : k ≡ x). ap (λ j. slice_index_or (slice_set marks x true) j false) eq ∙ get_or-set_same marks x true false xb ∙ sym (e k ∙ ap (λ b. b || f k) (eq-eqb k x eq)))
      (λ (ne : k ≡ x → ⊥). get_or-set_other marks x k true false ne ∙ tell k kb ∙ sym (e k ∙ ap (λ b. b || f k) (ne_eqb k x ne)))
      (cases_eq k x)

  pub marked-out : ((k : ℕ) → g k ≡ (f k && not (k == x))) → (k : ℕ) → k < 1024 → slice_index_or (slice_set marks x false) k false ≡ g k
  marked-out e k kb =
      let here = e k in
      ⊎_elim
      (λ (eq : k ≡ x).
      let off : slice_index_or (slice_set marks x false) k false ≡ false = ap (λ j. slice_index_or (slice_set marks x false) j false) eq ∙ get_or-set_same marks x false false xb in
      let same = eq-eqb k x eq in grind (arith, nat_tests))
      (λ (ne : k ≡ x → ⊥).
      let kept : slice_index_or (slice_set marks x false) k false ≡ f k = get_or-set_other marks x k false false ne ∙ tell k kb in
      let apart = ne_eqb k x ne in grind (arith, nat_tests))
      (cases_eq k x)
