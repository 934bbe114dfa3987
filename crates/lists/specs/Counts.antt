-- How many numbers pass a test.
use Rattle.std.specs.Prelude.{◌≡◌, ℕ, zero, suc, ◌+◌, ◌<◌, ◌≤◌, Bool, true, false, cond, ◌||◌, ◌==◌, refl}
use Rattle.std.proofs.Common.{ap, ◌∙◌, ⊎_elim, arith}
use Rattle.std.proofs.lemmas.Bool.{cases_eq, cases_Bool, eq-eqb, ne_eqb, cond-true, cond-false, false_from_ne_true}
use Rattle.lists.specs.Meaning.{count_below}

pub count_same : (f g : ℕ → Bool) (n : ℕ) → ((k : ℕ) → k < n → f k ≡ g k) → count_below f n ≡ count_below g n
unfolding count_below
count_same f g zero h = refl
count_same f g (suc n) h =
    let here = h n (omega arith) in
    let below = count_same f g n (λ k l. h k (omega arith)) in
    cc

pub count_none : (f : ℕ → Bool) (n : ℕ) → ((k : ℕ) → f k ≡ false) → count_below f n ≡ 0
unfolding count_below
count_none f zero h = refl
count_none f (suc n) h =
    let here = cond-false {A = ℕ} (f n) 1 0 (h n) in
    let below = count_none f n h in
    omega arith

-- where none is counted, none of them passes
pub none_from_count : (f : ℕ → Bool) (n : ℕ) → count_below f n ≡ 0 → (k : ℕ) → k < n → f k ≡ false
unfolding count_below
none_from_count f zero e k l = absurd (omega arith)
none_from_count f (suc n) e k l =
    ⊎_elim
    (λ (last : k ≡ n). ap f last ∙ false_from_ne_true (f n) (λ on. omega (arith, e, cond-true {A = ℕ} (f n) 1 0 on)))
    (λ (ne : k ≡ n → ⊥). none_from_count f n (omega (arith, e)) k (omega arith))
    (cases_eq k n)

pub count_most : (f : ℕ → Bool) (n : ℕ) → count_below f n ≤ n
unfolding count_below
count_most f zero = omega arith
count_most f (suc n) =
    let below = count_most f n in
    ⊎_elim (λ e. omega (arith, cond-true {A = ℕ} (f n) 1 0 e)) (λ e. omega (arith, cond-false {A = ℕ} (f n) 1 0 e)) (cases_Bool (f n))

-- one number more passes
pub count-one : (f g : ℕ → Bool) (x n : ℕ) → f x ≡ false → ((k : ℕ) → g k ≡ (k == x || f k)) → x < n → count_below g n ≡ count_below f n + 1
unfolding count_below
count-one f g x zero out h l = omega arith
count-one f g x (suc n) out h l =
    ⊎_elim
    (λ (e : n ≡ x).
    let same = count_same g f n (λ k k<n. h k ∙ ap (λ b. b || f k) (ne_eqb k x (omega arith))) in
    let now : g n ≡ true = h n ∙ ap (λ b. b || f n) (eq-eqb n x e) in
    let was : f n ≡ false = ap f e ∙ out in
    omega (arith, cond-true {A = ℕ} (g n) 1 0 now, cond-false {A = ℕ} (f n) 1 0 was))
    (λ (ne : n ≡ x → ⊥).
    let rest = count-one f g x n out h (omega arith) in
    let same : g n ≡ f n = h n ∙ ap (λ b. b || f n) (ne_eqb n x ne) in
    omega (arith, ap (λ b. cond {A = ℕ} b 1 0) same))
    (cases_eq n x)

-- of two tests that no number passes both
pub count-either : (f g : ℕ → Bool) (n : ℕ) → ((k : ℕ) → f k ≡ true → g k ≡ false) → count_below (λ k. f k || g k) n ≡ count_below f n + count_below g n
unfolding count_below
count-either f g zero apart = refl
count-either f g (suc n) apart =
    let below = count-either f g n apart in
    ⊎_elim
    (λ (e : f n ≡ true).
    let off = apart n e in
    let either : (f n || g n) ≡ true = ap (λ b. b || g n) e in
    omega (arith, cond-true {A = ℕ} (f n) 1 0 e, cond-false {A = ℕ} (g n) 1 0 off, cond-true {A = ℕ} (f n || g n) 1 0 either))
    (λ (e : f n ≡ false).
    let either : (f n || g n) ≡ g n = ap (λ b. b || g n) e in
    omega (arith, cond-false {A = ℕ} (f n) 1 0 e, ap (λ b. cond {A = ℕ} b 1 0) either))
    (cases_Bool (f n))
