-- What a row is less one of its stations, and what its oldest station tells.
use Rattle.std.specs.Prelude.{◌≡◌, ℕ, ◌≤◌, true, false, not, ◌&&◌, List, [], ◌∷◌, ◌++◌, length, is_some, Some, None, ◌==◌, refl}
use Rattle.std.proofs.Common.{ap, ◌∙◌, arith}
use Rattle.std.proofs.lemmas.Bool.{eq-eqb, cond-true, cond-false}
use Rattle.std.proofs.lemmas.Bool.Decides.{nat_tests}
use Rattle.lists.specs.Stations.{holds, proper, top_of, rest_of}
use Rattle.lists.specs.Counts.{count_most}
use Rattle.lists.specs.StationsLemmas.{proper-parts, count-holds}
use Rattle.buckets.specs.Rows.{filled, without}

pub proper-length : (xs : List ℕ) → proper xs ≡ true → length xs ≤ 1024
proper-length xs p = omega (arith, count-holds xs p, count_most (holds xs) 1024)

pub holds-without : (xs : List ℕ) (x k : ℕ) → holds (without x xs) k ≡ (holds xs k && not (k == x))
holds-without [] x k = refl
holds-without (y ∷ ys) x k = let rest = holds-without ys x k in grind (arith, nat_tests)

pub proper-without : (xs : List ℕ) (x : ℕ) → proper xs ≡ true → proper (without x xs) ≡ true
proper-without [] x p = refl
proper-without (y ∷ ys) x p =
    let a = proper-parts y ys p in
    let rest = proper-without ys x a.2 in
    let held = holds-without ys x y in
    grind (arith, nat_tests)

-- less a station that it does not hold, a row is the same
pub without-none : (xs : List ℕ) (x : ℕ) → holds xs x ≡ false → without x xs ≡ xs
without-none [] x out = refl
without-none (y ∷ ys) x out =
    let parts : ((x == y) ≡ false) × (holds ys x ≡ false) = grind (arith, nat_tests) in
    let rest = without-none ys x parts.1 in
    cond-false (x == y) (without x ys) (y ∷ without x ys) parts.0 ∙ ap (λ q. y ∷ q) rest

-- less its oldest station, a row is what comes after that
pub without-top : (x : ℕ) (ys : List ℕ) → proper (x ∷ ys) ≡ true → without x (x ∷ ys) ≡ ys
without-top x ys p = cond-true (x == x) (without x ys) (x ∷ without x ys) (eq-eqb x x refl) ∙ without-none ys x (proper-parts x ys p).1

pub top-some : (xs : List ℕ) (x : ℕ) → Some x ≡ top_of xs → xs ≡ x ∷ rest_of xs
top-some [] x e = let z : ◌≡◌ {A = ℕ} 0 1 = cc in absurd (omega arith)
top-some (y ∷ ys) x e = cc

pub top-none : (xs : List ℕ) → None ≡ top_of xs → xs ≡ []
top-none [] e = refl
top-none (y ∷ ys) e = let z : ◌≡◌ {A = ℕ} 0 1 = cc in absurd (omega arith)

pub top-filled : (xs : List ℕ) → is_some (top_of xs) ≡ filled xs
top-filled [] = refl
top-filled (x ∷ xs) = refl

pub push-filled : (xs : List ℕ) (x : ℕ) → filled (xs ++ x ∷ []) ≡ true
push-filled [] x = refl
push-filled (y ∷ ys) x = refl

pub held-filled : (xs : List ℕ) (x : ℕ) → holds xs x ≡ true → filled xs ≡ true
held-filled [] x h = h
held-filled (y ∷ ys) x h = refl
