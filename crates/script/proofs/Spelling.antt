-- Reading a number digit by digit gives what the word spells.
use Rattle.std.proofs.Common.{◌≡◌, ℕ, ◌+◌, ◌-◌, ◌*◌, ◌<◌, ◌≤◌, false, if◌then◌else◌, ◌&&◌, nat_le, List, [], ◌∷◌, Some, None, fold, Option, refl, arith, length, get_or, drop, inl, inr}
use Rattle.std.proofs.lemmas.Bool.{lt-leb, le-leb, leb-true, and_right, and_parts, cases_Bool, cond-true, cond-false}
use Rattle.std.proofs.lemmas.List.{drop_more}
use Rattle.script.specs.Numbers.{digit, digits, spelled, value_of, number_of}

-- one digit more
abbrev pub tens : ℕ → ℕ → ℕ
tens n b = n * 10 + (b - 48)

grows : (v : ℕ) (bs : List ℕ) → v ≤ fold tens v bs
grows v [] = omega arith
grows v (b ∷ bs) = omega (arith, grows (tens v b) bs)

-- what comes of the digits that are left after those of v
abbrev pub number_from : ℕ → ℕ → List ℕ → Option ℕ
number_from most v bs = if digits bs && nat_le (fold tens v bs) most then Some (fold tens v bs) else None

-- the byte at i makes more than the most of the digits of v
pub at-large : (most v : ℕ) (w : List ℕ) (i : ℕ) → i < length w → most < tens v (get_or w i 0) → number_from most v (drop i w) ≡ None
at-large most v w i here h =
    let k = grows (tens v (get_or w i 0)) (drop (i + 1) w) in
    let f : nat_le (fold tens (tens v (get_or w i 0)) (drop (i + 1) w)) most ≡ false = lt-leb _ _ (omega arith) in
    rw (drop_more w i 0 here, f, and_right (digit (get_or w i 0) && digits (drop (i + 1) w)) false refl)

-- (nothing cites it today; the record of the move names it)
pub from_all : (most v : ℕ) → v ≤ most → number_from most v [] ≡ Some v
from_all most v h = rw (le-leb v most h)

-- a word that is not empty is read from its first digit on
-- (nothing cites it today; the record of the move names it)
pub from_first : (most : ℕ) (w : List ℕ) → 0 < length w → number_of most w ≡ number_from most 0 w
from_first most [] h = absurd (omega arith)
from_first most (b ∷ bs) h = refl

-- a number that was spelled is no larger than it may be
-- (nothing cites it today; the record of the move names it)
pub number_small : (most : ℕ) (w : List ℕ) (n : ℕ) → Some n ≡ number_of most w → n ≤ most
number_small most w n e =
    elim (cases_Bool (spelled w && nat_le (value_of w) most)) [
      | inl t ↦
          let f = cond-true (spelled w && nat_le (value_of w) most) (Some (value_of w)) None t in
          let k : n ≡ value_of w = cc in
          rw k (leb-true _ _ (and_parts (spelled w) _ t).1)
      | inr t ↦
          let f = cond-false (spelled w && nat_le (value_of w) most) (Some (value_of w)) None t in
          let z : ◌≡◌ {A = ℕ} 0 1 = cc in absurd (omega arith)
    ]
