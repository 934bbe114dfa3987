-- Links from an end by stations to an end: what they tell of one another, and what a change of some leaves.
use Rattle.std.specs.Prelude.{◌≡◌, ℕ, zero, suc, ◌≤◌, true, false, ◌&&◌, List, [], ◌∷◌, ◌++◌, length, ◌==◌, ◌≢◌, nat_eq, slice_index, refl}
use Rattle.std.proofs.Common.{sym, ap, ◌∙◌, subst, ⊎_elim, arith}
use Rattle.std.proofs.lemmas.Bool.{cases_eq, and_parts, and_from, eqb-true, eq-eqb, ne_eqb, eqb-false, or_left, or_right, or_parts, or_cases, or_from, lt-ltb, le-ltb, cond-true, cond-false, both_ways}
use Rattle.std.proofs.lemmas.Bool.Decides.{nat_tests}
use Rattle.lists.specs.Stations.{holds, proper}
use Rattle.buckets.specs.Ties.{chain, linked}
use Rattle.lists.specs.StationsLemmas.{proper-parts}
use Rattle.buckets.specs.Rows.{without}
use Rattle.buckets.specs.Without.{without-none}

-- what the test `linked` says
abbrev pub Linked : (ℕ → ℕ) → (ℕ → ℕ) → ℕ → List ℕ → ℕ → Type 0
Linked nx pv a [] z = (nx a ≡ z) × (pv z ≡ a)
Linked nx pv a (x ∷ xs) z = (nx a ≡ x) × (pv x ≡ a) × Linked nx pv x xs z

pub linked-says : (nx pv : ℕ → ℕ) (a : ℕ) (xs : List ℕ) (z : ℕ) → linked nx pv a xs z ≡ true → Linked nx pv a xs z
linked-says nx pv a [] z h =
    let p = and_parts (nx a == z) (pv z == a) h in
    (eqb-true (nx a) z p.0, eqb-true (pv z) a p.1)
linked-says nx pv a (x ∷ xs) z h =
    let p = and_parts (nx a == x) (pv x == a && linked nx pv x xs z) h in
    let q = and_parts (pv x == a) (linked nx pv x xs z) p.1 in
    (eqb-true (nx a) x p.0, eqb-true (pv x) a q.0, linked-says nx pv x xs z q.1)

pub linked-from : (nx pv : ℕ → ℕ) (a : ℕ) (xs : List ℕ) (z : ℕ) → Linked nx pv a xs z → linked nx pv a xs z ≡ true
linked-from nx pv a [] z h = and_from _ _ (eq-eqb (nx a) z h.0) (eq-eqb (pv z) a h.1)
linked-from nx pv a (x ∷ xs) z h =
    and_from _ _ (eq-eqb (nx a) x h.0) (and_from _ _ (eq-eqb (pv x) a h.1) (linked-from nx pv x xs z h.2))

-- a list that is linked is the chain that its links give
pub chain-linked : (next : List ℕ) (pv : ℕ → ℕ) (a : ℕ) (xs : List ℕ) (z n : ℕ) → Linked (λ i. slice_index next i) pv a xs z → proper xs ≡ true → 1024 ≤ z → length xs ≤ n → chain next n (slice_index next a) ≡ xs
unfolding chain
chain-linked next pv a [] z zero h p zb l = refl
chain-linked next pv a [] z (suc n) h p zb l = cond-false _ _ _ (le-ltb (slice_index next a) 1024 (omega (arith, h.0)))
chain-linked next pv a (x ∷ xs) z zero h p zb l = absurd (omega arith)
chain-linked next pv a (x ∷ xs) z (suc n) h p zb l =
    let ps = proper-parts x xs p in
    let rest = chain-linked next pv x xs z n h.2 ps.2 zb (omega arith) in
    cond-true _ _ _ (lt-ltb (slice_index next a) 1024 (omega (arith, h.0, ps.0)))
    ∙ ap (λ y. y ∷ chain next n (slice_index next y)) h.0 ∙ ap (λ q. x ∷ q) rest

pub differ : (xs : List ℕ) (j k : ℕ) → holds xs j ≡ true → holds xs k ≡ false → j ≢ k
differ xs j k i o e = both_ways _ o (ap (holds xs) (sym e) ∙ i)

-- what stands before the end, before a member and after one
module _ (nx pv : ℕ → ℕ) where
  pub last-held : (a : ℕ) (xs : List ℕ) (z : ℕ) → Linked nx pv a xs z → holds (a ∷ xs) (pv z) ≡ true
  last-held a [] z h = or_left _ _ (eq-eqb (pv z) a h.1)
  last-held a (x ∷ xs) z h = or_right _ _ (last-held x xs z h.2)

  pub before-held : (a : ℕ) (xs : List ℕ) (z : ℕ) → Linked nx pv a xs z → (x : ℕ) → holds xs x ≡ true → holds (a ∷ xs) (pv x) ≡ true
  before-held a [] z h x i = absurd (both_ways _ refl i)
  before-held a (y ∷ ys) z h x i =
      ⊎_elim
      (λ (e : nat_eq x y ≡ true). or_left _ _ (eq-eqb (pv x) a (ap pv (eqb-true x y e) ∙ h.1)))
      (λ (later : holds ys x ≡ true). or_right _ _ (before-held y ys z h.2 x later))
      (or_cases (x == y) (holds ys x) i)

  pub after-held : (a : ℕ) (xs : List ℕ) (z : ℕ) → Linked nx pv a xs z → (x : ℕ) → holds xs x ≡ true → holds (z ∷ xs) (nx x) ≡ true
  after-held a [] z h x i = absurd (both_ways _ refl i)
  after-held a (y ∷ []) z h x i = let e : x ≡ y = grind (arith, nat_tests) in or_left _ _ (eq-eqb (nx x) z (ap nx e ∙ h.2.0))
  after-held a (y ∷ u ∷ us) z h x i =
      ⊎_elim
      (λ (e : nat_eq x y ≡ true). let is : nx x ≡ u = ap nx (eqb-true x y e) ∙ h.2.0 in grind (arith, nat_tests))
      (λ (later : holds (u ∷ us) x ≡ true). let rest = after-held y (u ∷ us) z h.2 x later in grind (arith, nat_tests))
      (or_cases (x == y) (holds (u ∷ us) x) i)

module _ (nx pv nx' pv' : ℕ → ℕ) where
  -- links of which none changed
  pub frame : (a : ℕ) (xs : List ℕ) (z : ℕ) → Linked nx pv a xs z → ((k : ℕ) → holds (a ∷ xs) k ≡ true → nx' k ≡ nx k) → ((k : ℕ) → holds (z ∷ xs) k ≡ true → pv' k ≡ pv k) → Linked nx' pv' a xs z
  frame a [] z h n p = (n a (or_left _ _ (eq-eqb a a refl)) ∙ h.0, p z (or_left _ _ (eq-eqb z z refl)) ∙ h.1)
  frame a (x ∷ xs) z h n p =
      (n a (or_left _ _ (eq-eqb a a refl)) ∙ h.0, p x (or_right _ _ (or_left _ _ (eq-eqb x x refl))) ∙ h.1, frame x xs z h.2 (λ k i. n k (or_right _ _ i)) (λ k i. p k (grind (arith, nat_tests))))

  -- x goes between the last station and the end z
  module _ (z x : ℕ) (nt : nx' (pv z) ≡ x) (px : pv' x ≡ pv z) (xz : nx' x ≡ z) (pz : pv' z ≡ x) (n : (k : ℕ) → (k ≢ pv z) → (k ≢ x) → nx' k ≡ nx k) (p : (k : ℕ) → (k ≢ x) → (k ≢ z) → pv' k ≡ pv k) where
    pub extend : (a : ℕ) (xs : List ℕ) → Linked nx pv a xs z → proper xs ≡ true → holds xs a ≡ false → holds xs z ≡ false → holds (a ∷ xs) x ≡ false → Linked nx' pv' a (xs ++ x ∷ []) z
    extend a [] h once oa oz ox = (ap nx' (sym h.1) ∙ nt, px ∙ h.1, (xz, pz))
    extend a (y ∷ ys) h once oa oz ox =
        let ps = proper-parts y ys once in
        let ox' = or_parts (x == a) (holds (y ∷ ys) x) ox in
        let here : holds (y ∷ ys) y ≡ true = or_left _ _ (eq-eqb y y refl) in
        (n a (λ e. differ (y ∷ ys) (pv z) a (last-held nx pv y ys z h.2) oa (sym e)) (λ e. eqb-false x a ox'.0 (sym e)) ∙ h.0, p y (differ (y ∷ ys) y x here ox'.1) (differ (y ∷ ys) y z here oz) ∙ h.1, extend y ys h.2 ps.2 ps.1 (or_parts _ _ oz).1 ox'.1)

  -- x leaves, and what stood before it is tied to what stood after it
  module _ (z x : ℕ) (np : nx' (pv x) ≡ nx x) (pn : pv' (nx x) ≡ pv x) (n : (k : ℕ) → (k ≢ pv x) → nx' k ≡ nx k) (p : (k : ℕ) → (k ≢ nx x) → pv' k ≡ pv k) where
    close : (a : ℕ) (ys : List ℕ) → Linked nx pv x ys z → proper ys ≡ true → holds ys a ≡ false → holds ys z ≡ false → pv x ≡ a → Linked nx' pv' a ys z
    close a [] h once oa oz e = (ap nx' (sym e) ∙ np ∙ h.0, ap pv' (sym h.0) ∙ pn ∙ e)
    close a (u ∷ us) h once oa oz e =
        let ps = proper-parts u us once in (
          ap nx' (sym e) ∙ np ∙ h.0,
          ap pv' (sym h.0) ∙ pn ∙ e,
          frame u us z h.2
              (λ k i. n k (λ g. differ (u ∷ us) k a i oa (g ∙ e)))
              (λ k i. p k (λ g. differ (z ∷ us) k u i (or_from _ _ (ne_eqb u z (λ f. eqb-false z u (or_parts _ _ oz).0 (sym f))) ps.1) (g ∙ h.0))),
        )

    pub skip : (a : ℕ) (xs : List ℕ) → Linked nx pv a xs z → proper xs ≡ true → holds xs a ≡ false → holds xs z ≡ false → holds xs x ≡ true → Linked nx' pv' a (without x xs) z
    skip a [] h once oa oz i = absurd (both_ways _ refl i)
    skip a (y ∷ ys) h once oa oz i =
        let ps = proper-parts y ys once in
        let oz' = or_parts (z == y) (holds ys z) oz in
        ⊎_elim
        (λ (e : x ≡ y).
        let left : without x (y ∷ ys) ≡ ys = cond-true _ _ _ (eq-eqb x y e) ∙ without-none ys x (ap (holds ys) e ∙ ps.1) in
        subst (λ q. Linked nx' pv' a q z) (sym left) (close a ys (subst (λ q. Linked nx pv q ys z) (sym e) h.2) ps.2 (or_parts _ _ oa).1 oz'.1 (ap pv e ∙ h.1)))
        (λ (ne : x ≡ y → ⊥).
        let later : holds ys x ≡ true = grind (arith, nat_tests) in
        let left : without x (y ∷ ys) ≡ y ∷ without x ys = cond-false _ _ _ (ne_eqb x y ne) in
        subst (λ q. Linked nx' pv' a q z) (sym left)
        (n a (λ g. differ (y ∷ ys) (pv x) a (before-held nx pv y ys z h.2 x later) oa (sym g)) ∙ h.0, p y (λ g. differ (z ∷ ys) (nx x) y (after-held nx pv y ys z h.2 x later) (or_from _ _ (ne_eqb y z (λ f. eqb-false z y oz'.0 (sym f))) ps.1) (sym g)) ∙ h.1, skip y ys h.2 ps.2 ps.1 oz'.1 later))
        (cases_eq x y)
