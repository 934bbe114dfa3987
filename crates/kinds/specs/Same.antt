-- Values with an invariant are the same where their numbers are: an invariant has one proof at most.
use Rattle.std.specs.Prelude.{◌≡◌, ◌≤◌, true, ℤ, pos, negsuc, int_le}
use Rattle.std.proofs.Common.{ap, subst, arith}
use Rattle.std.proofs.Math.Bool.{Bool-set}
use Rattle.std.specs.Coded.{×_prop, le_prop}
use Rattle.std.proofs.lemmas.Bool.{leb-true}
use Rattle.kinds.specs.declared.airtime.Airtime.{Airtime}
use Rattle.kinds.specs.declared.chance.Chance.{Chance}
use Rattle.kinds.specs.declared.margin.Margin.{Margin}
use Rattle.kinds.specs.Airtimes.{airtime_of}
use Rattle.kinds.specs.Margins.{margin_of}

-- what is made of a number and a fact about it
pub same-made : {V C : Type 0} (P : V → Type 0) (prop : (v : V) (p q : P v) → p ≡ q) (of : (v : V) → P v → C)
    (m n : V) (p : P m) (q : P n) → m ≡ n → of m p ≡ of n q
same-made {V} P prop of m n p q e =
    let Q : V → Type 0 = λ k. (r : P k) → of m p ≡ of k r in subst Q e (λ r. ap (of m) (prop m p r)) q

pub same-airtime : (x y : Airtime) → x.micros ≡ y.micros → x ≡ y
same-airtime x y e =
    same-made (λ n. n ≤ 4294967295) (λ n p q. le_prop p q) (λ n p. record { micros = n; fits = p }) x.micros y.micros x.fits y.fits e

pub same-chance : (x y : Chance) → x.parts ≡ y.parts → x ≡ y
same-chance x y e =
    same-made (λ n. n ≤ 65536) (λ n p q. le_prop p q) (λ n p. record { parts = n; most = p }) x.parts y.parts x.most y.most e

abbrev Bounds : ℤ → Type 0
Bounds z = (int_le (negsuc 127) z ≡ true) × (int_le z (pos 127) ≡ true)

bounds-once : (z : ℤ) (p q : Bounds z) → p ≡ q
bounds-once z p q = ×_prop (Bool-set _ _) (Bool-set _ _) p q

pub same-margin : (x y : Margin) → x.decibels ≡ y.decibels → x ≡ y
same-margin x y e =
    same-made Bounds bounds-once (λ z p. record { decibels = z; least = p.0; most = p.1 }) x.decibels y.decibels (x.least, x.most) (y.least, y.most) e

-- a value is what is made of its number
-- (nothing cites it today)
pub airtime_of-micros : (x : Airtime) → airtime_of x.micros ≡ x
airtime_of-micros x = same-airtime _ _ (omega (arith, x.fits))

-- (nothing cites it today)
pub margin_of-decibels : (x : Margin) → margin_of x.decibels ≡ x
margin_of-decibels x = same-margin _ _ (cut x.decibels x.least x.most)
  where
    cut : (z : ℤ) → int_le (negsuc 127) z ≡ true → int_le z (pos 127) ≡ true → (margin_of z).decibels ≡ z
    cut (pos n) low high = ap pos (omega (arith, leb-true n 127 high))
    cut (negsuc n) low high = ap negsuc (omega (arith, leb-true n 127 low))
