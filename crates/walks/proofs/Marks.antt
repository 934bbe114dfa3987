-- Marks at stations: one mark more, and how many there are.
use Rattle.std.proofs.Common.{◌≡◌, ℕ, zero, suc, ◌+◌, ◌-◌, ◌<◌, ◌≤◌, Bool, true, false, ◌||◌, eqb, List, length, get_or, set, replicate, sym, refl, ◌∙◌, inl, inr, arith, get_or-set_same, get_or-set_other, add-zero, add-suc}
use Rattle.std.proofs.lemmas.Bool.{cases_eq, eq-eqb, ne_eqb, cond-false}
use Rattle.lists.specs.Meaning.{count_below}
use Rattle.lists.specs.Counts.{count_same, count_none, count-one, count_most}
use Rattle.net.specs.Table.{Table, ForwardStar, station_count}

abbrev pub marked_in : List Bool → ℕ → Bool
marked_in marks v = get_or marks v false

pub none_marked : (n v : ℕ) → marked_in (replicate n false) v ≡ false
none_marked zero v = refl
none_marked (suc n) zero = refl
none_marked (suc n) (suc v) = none_marked n v

pub none_counted : (n : ℕ) → 0 ≡ count_below (marked_in (replicate n false)) n
none_counted n = sym (count_none (marked_in (replicate n false)) n (none_marked n))

-- none from n on passes: no more are counted
count_past : (f : ℕ → Bool) (n k : ℕ) → ((v : ℕ) → n ≤ v → f v ≡ false) → count_below f (n + k) ≡ count_below f n
unfolding count_below
count_past f n zero none = rw add-zero
count_past f n (suc k) none =
    let rest = count_past f n k none in
    rw add-suc (omega (arith, rest, cond-false {A = ℕ} (f (n + k)) 1 0 (none (n + k) (omega arith))))

-- where only stations pass, all are counted among the stations
pub counted_stations : {t : Table} → ForwardStar t → (f g : ℕ → Bool) → ((v : ℕ) → v < station_count t → f v ≡ g v) → ((v : ℕ) → station_count t ≤ v → f v ≡ false)
    → count_below f 1024 ≡ count_below g (station_count t)
counted_stations {t = t} star f g same none =
    let all : 1024 ≡ station_count t + (1024 - station_count t) = omega (arith, star.few) in
    rw all (count_past f (station_count t) (1024 - station_count t) none) ∙ count_same f g (station_count t) same

module _ (marks : List Bool) (x : ℕ) (below : x < length marks) where
  marked_more : (v : ℕ) → marked_in (set marks x true) v ≡ (eqb v x || marked_in marks v)
  marked_more v =
      elim (cases_eq v x) [
        | inl e ↦ rw (e, eq-eqb x x refl, get_or-set_same marks x true false below)
        | inr ne ↦ rw (ne_eqb v x ne, get_or-set_other marks x v true false ne)
      ]

  module _ (n : ℕ) (few : x < n) (new : marked_in marks x ≡ false) where
    pub counted_more : count_below (marked_in (set marks x true)) n ≡ count_below (marked_in marks) n + 1
    counted_more = count-one (marked_in marks) (marked_in (set marks x true)) x n new marked_more few

    -- so there is room for it
    pub counted_room : count_below (marked_in marks) n < n
    counted_room = omega (arith, counted_more, count_most (marked_in (set marks x true)) n)
