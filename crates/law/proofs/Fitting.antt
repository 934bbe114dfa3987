-- The links of a station are those that leave it, and a forward star is fit for the proofs.
use Rattle.std.proofs.Common.{ℕ, zero, suc, ◌+◌, ◌<◌, ◌≤◌, inl, inr, arith}
use Rattle.std.specs.List.{range_with_len}
use Rattle.std.proofs.lemmas.Bool.{cases_eq}
use Rattle.net.specs.Table.{Table, ForwardStar, Leaves, station_count, tail_at}
use Rattle.net.proofs.Tails.{lands, tail-is, tail-leaves, first_link-below}
use Rattle.paths.specs.Lists.{In}
use Rattle.runs.specs.Scan.{links_of}
use Rattle.law.proofs.Invariant.{Fit}

pub in-range : (a n x : ℕ) → a ≤ x → x < a + n → In x (range_with_len a n)
in-range a zero x low high = absurd (omega arith)
in-range a (suc n) x low high = elim (cases_eq x a) [ inl e ↦ inl e | inr d ↦ inr (in-range (a + 1) n x (omega arith) (omega arith)) ]

pub range-in : (a n x : ℕ) → In x (range_with_len a n) → (a ≤ x) × (x < a + n)
range-in a zero x i = elim i [ ]
range-in a (suc n) x (inl e) = (omega arith, omega arith)
range-in a (suc n) x (inr i) = let r = range-in (a + 1) n x i in (omega (arith, r), omega (arith, r))

module _ (t : Table) where
  pub leaves-in : (l v : ℕ) → Leaves t l v → In l (links_of t v)
  leaves-in l v w = in-range _ _ l w.from (omega (arith, w.from, w.to))

  pub in-leaves : (l v : ℕ) → v < station_count t → In l (links_of t v) → Leaves t l v
  in-leaves l v h i =
      let r = range-in _ _ l i in
      record { station = h; from = r.0; to = omega (arith, r) }

module _ {t : Table} (star : ForwardStar t) where
  pub star_fit : Fit t
  star_fit = record {
    few = star.light;
    small = omega (arith, star.few);
    lands = λ l h. lands star l h;
    leaves = λ l h. (tail-leaves star l h).station;
    all = λ l h. leaves-in t l (tail_at t l) (tail-leaves star l h);
    only = λ v h l i. let w = in-leaves t l v h i in (omega (arith, w.to, first_link-below star (v + 1) (omega (arith, w.station))), tail-is star l v w);
  }
