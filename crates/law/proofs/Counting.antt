-- How many stations wait, where one enters, where one leaves, and where all that wait are below a bound; and that none waits where their number is 0.
use Rattle.std.proofs.Common.{◌≡◌, ℕ, zero, suc, ◌+◌, ◌<◌, ◌≤◌, Bool, true, false, not, ◌&&◌, ◌||◌, ◌==◌, sym, ap, ◌∙◌, inl, inr, arith}
use Rattle.std.proofs.lemmas.Bool.{cases_eq, cases_Bool, cases_lt, cond-false, false_from_ne_true}
use Rattle.std.proofs.lemmas.Bool.Decides.{nat_tests}
use Rattle.lists.specs.Meaning.{count_below, ListLaws}
use Rattle.lists.specs.Counts.{count_same, count_most, count-one, none_from_count}
use Rattle.lists.specs.declared.list.CandidateList.{Ghosts as Candidates}
use Rattle.runs.specs.Acts.{waiting_in, AtRest}

-- x enters, which may have waited
pub count-entered : (f g : ℕ → Bool) (x n : ℕ) → ((j : ℕ) → g j ≡ (j == x || f j)) → count_below g n ≤ count_below f n + 1
count-entered f g x n h =
    elim (cases_Bool (f x)) [
      | inl was ↦ omega (arith, count_same g f n (λ j below. waited j was (h j)))
      | inr out ↦ elim (cases_lt x n) [
        | inl low ↦ omega (arith, count-one f g x n out h low)
        | inr high ↦ omega (arith, count_same g f n (λ j below. let ne : j ≡ x → ⊥ = λ e. omega arith in other j ne (h j)))
      ]
    ]
  where
    other : (j : ℕ) → (j ≡ x → ⊥) → g j ≡ (j == x || f j) → g j ≡ f j
    other j ne e = grind (arith, nat_tests)

    waited : (j : ℕ) → f x ≡ true → g j ≡ (j == x || f j) → g j ≡ f j
    waited j was e = elim (cases_eq j x) [ inl eq ↦ let there : f j ≡ true = ap f eq ∙ was in grind (arith, nat_tests) | inr ne ↦ other j ne e ]

-- x leaves, which waited
pub count-left : (f g : ℕ → Bool) (x n : ℕ) → f x ≡ true → ((j : ℕ) → g j ≡ (f j && not (j == x))) → x < n → count_below g n + 1 ≡ count_below f n
count-left f g x n was h low = sym (count-one g f x n (gone (h x)) (λ j. back j (h j)) low)
  where
    gone : g x ≡ (f x && not (x == x)) → g x ≡ false
    gone e = grind (arith, nat_tests)

    back : (j : ℕ) → g j ≡ (f j && not (j == x)) → f j ≡ (j == x || g j)
    back j e = elim (cases_eq j x) [ inl eq ↦ let there : f j ≡ true = ap f eq ∙ was in grind (arith, nat_tests) | inr ne ↦ grind (arith, nat_tests) ]

-- none waits from m on
pub count-bounded : (f : ℕ → Bool) (m n : ℕ) → ((j : ℕ) → f j ≡ true → j < m) → count_below f n ≤ m
unfolding count_below
count-bounded f m zero h = omega arith
count-bounded f m (suc n) h =
    elim (cases_lt n m) [
      | inl low ↦ omega (arith, count_most f (suc n))
      | inr high ↦
          let off : f n ≡ false = false_from_ne_true (f n) (λ e. omega (arith, h n e)) in
          omega (arith, count-bounded f m n h, cond-false {A = ℕ} (f n) 1 0 off)
    ]

-- a list of which 0 stations wait is at rest
pub rest_from_count : {S K L G : Type 0} (c : Candidates S K L G) → ListLaws c.waits c.emptied c.entered c.picked → (s : S) → waiting_in c s ≡ 0 → AtRest c s
rest_from_count c lists s e v = elim (cases_Bool (c.waits s v)) [
  | inl waits ↦ none_from_count (c.waits s) 1024 e v (lists.below s v waits)
  | inr off ↦ off
]
