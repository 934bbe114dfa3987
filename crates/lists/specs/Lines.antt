-- The laws of orders on one queue: a station that did not wait goes to either end, and the top is picked.
use Rattle.std.specs.Prelude.{◌≡◌, ℕ, Bool, true, false, not, ◌&&◌, ◌||◌, List, [], ◌∷◌, ◌++◌, Option, ◌==◌, slice_index_or, refl, if◌then◌else◌}
use Rattle.std.proofs.Common.{sym, ap, ◌∙◌, subst, ⊎_elim, arith}
use Rattle.std.proofs.lemmas.Bool.{cases_eq, cases_Bool, cond-true, cond-false}
use Rattle.std.proofs.lemmas.Bool.Decides.{nat_tests}
use Rattle.lists.specs.Order.{Order, OrderLaws, Takes}
use Rattle.lists.specs.Stations.{holds, proper, top_of, rest_of}
use Rattle.lists.specs.FirstIns.{first_in}
use Rattle.lists.specs.TwoEndeds.{TwoEnds, to_its_end, two_ended}
use Rattle.lists.specs.SmallLabels.{small_label, goes_first}
use Rattle.lists.specs.StationsLemmas.{holds-push, holds-head, holds-below, holds-rest}

-- a list that gained x, unless it held x already, holds x and what it held
pub gained : (xs ys : List ℕ) (x : ℕ) → ((k : ℕ) → holds ys k ≡ (k == x || holds xs k)) → (k : ℕ) → holds (if holds xs x then xs else ys) k ≡ (k == x || holds xs k)
gained xs ys x e k =
    ⊎_elim
    (λ (here : holds xs x ≡ true).
    ap (λ q. holds q k) (cond-true (holds xs x) xs ys here) ∙
    ⊎_elim
    (λ (eq : k ≡ x). let there : holds xs k ≡ true = ap (holds xs) eq ∙ here in grind (arith, nat_tests))
    (λ (ne : k ≡ x → ⊥). grind (arith, nat_tests))
    (cases_eq k x))
    (λ (gone : holds xs x ≡ false). ap (λ q. holds q k) (cond-false (holds xs x) xs ys gone) ∙ e k)
    (cases_Bool (holds xs x))

-- either end
pub at-end : (b : Bool) (xs : List ℕ) (x k : ℕ) → holds (if b then x ∷ xs else xs ++ x ∷ []) k ≡ (k == x || holds xs k)
at-end true xs x k = refl
at-end false xs x k = holds-push xs x k

-- the top is picked, in any order that tells of a queue `line` what waits
pub takes-top : {M A : Type 0} (o : Order M A) (m n : M) (xs : List ℕ) → proper xs ≡ true → ((k : ℕ) → o.waiting m k ≡ holds xs k) → ((k : ℕ) → o.waiting n k ≡ holds (rest_of xs) k) → Takes o m n (top_of xs)
takes-top o m n [] p e f = λ k. (e k, f k)
takes-top o m n (x ∷ xs) p e f =
    (e x ∙ holds-head x xs, λ k. f k ∙ holds-rest x xs k p ∙ ap (λ b. b && not (k == x)) (sym (e k)))

-- every order that puts a new station to one end, by any rule, and picks the top of the queue
pub ended-laws : {M A : Type 0} (o : Order M A) (line : M → List ℕ) → ((m : M) (k : ℕ) → o.waiting m k ≡ holds (line m) k) → ((m : M) → line (o.cleared m) ≡ []) → (rule : M → ℕ → List A → Bool) → ((m : M) (x : ℕ) (ls : List A) → line (o.entering m x ls) ≡ (if holds (line m) x then line m else (if rule m x ls then x ∷ line m else line m ++ x ∷ []))) → ((m : M) (ls : List A) → (o.picking m ls).0 ≡ top_of (line m)) → ((m : M) (ls : List A) → line (o.picking m ls).1 ≡ rest_of (line m)) → OrderLaws o (λ m. proper (line m) ≡ true)
ended-laws o line w c rule e p q = record {
  below = λ m k ok h. holds-below (line m) k ok (sym (w m k) ∙ h);
  clears = λ m k. w (o.cleared m) k ∙ ap (λ l. holds l k) (c m);
  adds = λ m x ls k ok b. w (o.entering m x ls) k ∙ ap (λ l. holds l k) (e m x ls) ∙ gained (line m) _ x (at-end (rule m x ls) (line m) x) k ∙ ap (λ b. (k == x) || b) (sym (w m k));
  takes = λ m ls ok. let P : Option ℕ → Type 0 = λ r. Takes o m (o.picking m ls).1 r in subst P (sym (p m ls)) (takes-top o m (o.picking m ls).1 (line m) ok (w m) (λ k. w (o.picking m ls).1 k ∙ ap (λ l. holds l k) (q m ls)));
}

pub first-laws : {A : Type 0} → OrderLaws (first_in {A = A}) (λ q. proper q ≡ true)
first-laws {A} = ended-laws (first_in {A = A}) (λ q. q) (λ q k. refl) (λ q. refl) (λ q x ls. false) (λ q x ls. refl) (λ q ls. refl) (λ q ls. refl)

pub two-laws : {A : Type 0} → OrderLaws (two_ended {A = A}) (λ m. proper m.line ≡ true)
two-laws {A} =
    ended-laws (two_ended {A = A}) (λ m. m.line) (λ m k. refl) (λ m. refl) (λ m x ls. slice_index_or m.seen x false)
    (λ m x ls. cond-line (holds m.line x) m (to_its_end m x)) (λ m ls. refl) (λ m ls. refl)
  where
    cond-line : (b : Bool) (m n : TwoEnds) → (if b then m else n).line ≡ (if b then m.line else n.line)
    cond-line true m n = refl
    cond-line false m n = refl

pub small-laws : {A : Type 0} (at_least : A → A → Bool) → OrderLaws (small_label at_least) (λ q. proper q ≡ true)
small-laws at_least =
    ended-laws (small_label at_least) (λ q. q) (λ q k. refl) (λ q. refl) (λ q x ls. goes_first at_least ls x q) (λ q x ls. refl) (λ q ls. refl) (λ q ls. refl)
