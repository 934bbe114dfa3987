-- The lists that meet no refusal are those with the forward-star property.
use Rattle.std.proofs.Common.{◌≡◌, ℕ, ◌-◌, ◌≤◌, Bool, true, false, cond, not, ◌||◌, eqb, ltb, length, get_or, is_some, Some, None, Ok, Err, Option, Result, refl, sym, ap, inl, inr, arith, ◌+◌, ◌<◌, List, MatchBool, MatchOption, MatchResult}
use Rattle.std.proofs.lemmas.Bool.{or_parts, not-false, ltb-false, leb-false, eqb-true, le-ltb, lt-leb, eq-eqb, or_from, le-leb}
use Rattle.std.specs.List.{AllWithin, HoldsAt}
use Rattle.std.specs.List.Sorted.{IsNonDecreasing}
use Rattle.refusals.specs.declared.net.NetFault.{NetFault}
use Rattle.net.specs.First.{first_below}
use Rattle.net.specs.Table.{Table, ForwardStar}
use Rattle.net.specs.Judged.{falls, misled, stray, net_fault, judged, head_fault}
use Rattle.net.proofs.Firsts.{none-says, none_is, first-is, first-tells}

-- a refusal that did not come: its test failed, and what stands after it did not come either
cond-none : {E : Type 0} (b : Bool) (x : E) (o : Option E) → cond b (Some x) o ≡ None → (b ≡ false) × (o ≡ None)
cond-none true x o e = absurd cc
cond-none false x o e = (refl, e)

is_some-false : (o : Option ℕ) → is_some o ≡ false → o ≡ None
is_some-false (Some k) e = absurd cc
is_some-false None e = refl

head_fault-none : (o : Option ℕ) → head_fault o ≡ None → o ≡ None
head_fault-none (Some k) e = absurd cc
head_fault-none None e = refl

pub judged-ok : {E : Type 0} (o : Option E) (u : Unit {0}) → Ok u ≡ judged o → o ≡ None
judged-ok (Some k) u e = absurd cc
judged-ok None u e = refl

pub unrefused-star : (t : Table) → net_fault t ≡ None → ForwardStar t
unrefused-star t e =
    let s = t.starts in
    let h = t.heads in
    let a = cond-none (ltb (length s) 2 || ltb 1025 (length s)) _ _ e in
    let b = cond-none (ltb 4096 (length h)) _ _ a.1 in
    let d = cond-none (misled s (length h)) _ _ b.1 in
    let n = none-says (stray (length s - 1) h) (length h) (head_fault-none _ d.1) in
    let c = or_parts _ _ a.0 in
    let m = or_parts (not (eqb (get_or s 0 0) 0)) _ d.0 in
    let q = or_parts (is_some (first_below (falls s) (length s - 1))) _ m.1 in
    let f = none-says (falls s) (length s - 1) (is_some-false _ q.0) in
    let two : 2 ≤ length s = ltb-false _ _ c.0 in
    record {
      some = two;
      few = ltb-false _ _ c.1;
      light = ltb-false _ _ b.0;
      first = eqb-true _ _ (not-false _ m.0);
      rising = λ k l. ltb-false _ _ (f k (omega arith));
      last = eqb-true _ _ (not-false _ q.1);
      within = λ k l. omega (arith, leb-false _ _ (n k l));
    }

pub star-unrefused : (t : Table) → ForwardStar t → net_fault t ≡ None
star-unrefused t w =
    let s = t.starts in
    let h = t.heads in
    let a = or_from _ _ (le-ltb (length s) 2 w.some) (le-ltb 1025 (length s) w.few) in
    let b = le-ltb 4096 (length h) w.light in
    let two : 2 ≤ length s = w.some in
    let f : first_below (falls s) (length s - 1) ≡ None =
    none_is (falls s) (length s - 1) (λ k l. le-ltb _ _ (w.rising k (omega arith))) in
    let n : first_below (stray (length s - 1) h) (length h) ≡ None =
    none_is (stray (length s - 1) h) (length h) (λ k l. lt-leb (length s - 1) (get_or h k 0) (omega (arith, w.within k l))) in
    rw (a, b, eq-eqb (get_or s 0 0) 0 w.first, f, eq-eqb (get_or s (length s - 1) 0) (length h) w.last, n)

-- an answer that is as `net_fault` tells it says whether the property holds
pub judged-star : (t : Table) (r : Result (Unit {0}) NetFault) → r ≡ judged (net_fault t)
    → MatchResult r (λ _. ForwardStar t) (λ _. ForwardStar t → ⊥)
judged-star t (Ok u) e = unrefused-star t (judged-ok _ u e)
judged-star t (Err y) e = λ w.
    let n : judged (net_fault t) ≡ Ok tt = rw (star-unrefused t w) in
    absurd cc

-- what `is_sorted` answers says whether some start is above the next
pub falls-sorted : (s : List ℕ) (r : Bool)
    → MatchBool r (IsNonDecreasing s) ((k : ℕ) × (k + 1 < length s) × ((d : ℕ) → get_or s (k + 1) d < get_or s k d))
    → not r ≡ is_some (first_below (falls s) (length s - 1))
falls-sorted s true up = sym (ap is_some (none_is _ _ (λ k l. le-ltb _ _ (up k (k + 1) 0 (omega arith) (omega arith)))))
falls-sorted s false (k, l, down) =
    elim (first-tells (falls s) (length s - 1)) [
      | inl (none, _) ↦ absurd (omega (arith, ltb-false _ _ (none k (omega arith)), down 0))
      | inr (_, _, _, _, e) ↦ rw e
    ]

-- what `position` answers is the first link whose head is no station
pub stray-first : (n : ℕ) (h : List ℕ) (o : Option ℕ)
    → MatchOption o (AllWithin (λ x. x < n) h 0 (length h)) (λ i. (i < length h) × HoldsAt (λ x. n ≤ x) h i × AllWithin (λ x. x < n) h 0 i)
    → o ≡ first_below (stray n h) (length h)
stray-first n h None all = sym (none_is _ _ (λ k l. lt-leb _ _ (all k 0 (omega arith) l)))
stray-first n h (Some i) (l, is, before) = sym (first-is _ _ i l (le-leb _ _ (is 0)) (λ j m. lt-leb _ _ (before j 0 (omega arith) m)))
