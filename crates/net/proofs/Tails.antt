-- Where a link lies among the starts: each link leaves exactly one station.
use Rattle.std.specs.List.Sorted.{IsNonDecreasing, IsPartitionedBy, IsPartitionPoint}
use Rattle.std.proofs.lemmas.List.{get_or-take, get_or-drop, length-take, length-drop}
use Rattle.std.proofs.lemmas.List.Sorted.{IsPartitionedBy-leb, IsNonDecreasingBy-take, IsNonDecreasingBy-drop, IsNonDecreasingBy-from_all_adjacent}
use Rattle.std.proofs.lemmas.Grind.{get_or_default_zero}
use Rattle.std.proofs.Common.{◌≡◌, ℕ, zero, suc, ◌+◌, ◌-◌, ◌<◌, ◌≤◌, ap, ◌∙◌, true, false, take, drop, leb, eqb, ltb, List, length, get_or, subst, inl, inr, add-one, arith}
use Rattle.std.proofs.lemmas.Bool.{cases_lt, lt-ltb, le-ltb, ltb-true, ltb-false, leb-true, leb-false, ne_eqb}
use Rattle.net.specs.Table.{Table, Rising, ForwardStar, Leaves, station_count, link_count, first_link, head_at, tail_at}
use Rattle.net.specs.View.{table_of}
use Rattle.net.specs.declared.star.Net.{Net}
use Rattle.net.proofs.Firsts.{first-is, first-tells}

-- starts that rise from one to the next rise over any stretch
pub rises : (s : List ℕ) → Rising s → IsNonDecreasing s
rises s r =
    IsNonDecreasingBy-from_all_adjacent (λ x. x) s
    (λ k d h. omega (arith, get_or_default_zero s k d (omega arith), get_or_default_zero s (k + 1) d h, r k h))

-- all starts but the first, as the code cuts them out
abbrev pub ends : List ℕ → List ℕ
ends s = take (length s - 1) (drop 1 s)

ends-at : (s : List ℕ) (k : ℕ) → k < length s - 1 → get_or (ends s) k 0 ≡ get_or s (k + 1) 0
ends-at s k h = get_or-take _ (drop 1 s) k 0 h ∙ get_or-drop 1 s k 0 ∙ ap (λ i. get_or s i 0) (omega arith)

-- what a search among the ends by `start <= link` asks
pub ends-parted : (s : List ℕ) → Rising s → (l : ℕ) → IsPartitionedBy (λ y. leb y l) (ends s)
ends-parted s r l =
    IsPartitionedBy-leb (λ y. y) (ends s) l
    (IsNonDecreasingBy-take (λ y. y) _ _ (IsNonDecreasingBy-drop (λ y. y) 1 s (rises s r)))

-- a net's invariant as one fact
pub star_of : (n : Net) → ForwardStar (table_of n)
star_of n = record { some = n.some; few = n.few; light = n.light; first = n.first; rising = n.rising; last = n.last; within = n.within }

module _ {t : Table} (star : ForwardStar t) where
  -- a link of station s has s as its tail
  pub tail-is : (l s : ℕ) → Leaves t l s → tail_at t l ≡ s
  unfolding tail_at
  tail-is l s w =
      rw (first-is (λ k. ltb l (first_link t (k + 1))) (station_count t) s w.station (lt-ltb _ _ w.to)
      (λ j h. le-ltb l (first_link t (j + 1)) (omega (arith, w.from, rises t.starts star.rising (j + 1) s 0 (omega arith) (omega (arith, w.station))))))

  -- a link that is none of the stations' before k lies behind their ends
  past : (l k : ℕ) → k < station_count t → ((j : ℕ) → j < k → first_link t (j + 1) ≤ l) → first_link t k ≤ l
  past l zero b before = omega (arith, star.first)
  past l (suc k) b before = rw add-one at (before k (omega arith))

  -- every link leaves its tail
  pub tail-leaves : (l : ℕ) → l < link_count t → Leaves t l (tail_at t l)
  unfolding tail_at
  tail-leaves l h =
      elim (first-tells (λ k. ltb l (first_link t (k + 1))) (station_count t)) [
        | inl (none, e) ↦
            let d : station_count t - 1 + 1 ≡ length t.starts - 1 = omega (arith, star.some) in
            let f : link_count t ≤ l = rw (d, star.last) at (ltb-false l (first_link t (station_count t - 1 + 1)) (none (station_count t - 1) (omega (arith, star.some)))) in
            absurd (omega arith)
        | inr (k, below, test, before, e) ↦
            rw e (record { station = below; from = past l k below (λ j m. ltb-false _ _ (before j m)); to = ltb-true _ _ test })
      ]

  -- and what it finds is the station that has the link
  pub ends-found : (l i : ℕ) → l < link_count t → i ≤ length (ends t.starts)
      → IsPartitionPoint (λ y. leb y l ≡ true) (λ y. leb y l ≡ false) (ends t.starts) i → Leaves t l i
  ends-found l i h b (low, high) =
      let s = t.starts in
      let most : i ≤ length s - 1 = omega (arith, length-take (length s - 1) (drop 1 s)) in
      let at_most : (k : ℕ) → k < i → get_or s (k + 1) 0 ≤ l =
      λ k m. omega (arith, ends-at s k (omega arith), leb-true _ _ (low k 0 (omega arith) m)) in
      let below : i < length s - 1 = elim (cases_lt i (length s - 1)) [
        | inl m ↦ m
        | inr m ↦ (let e : i - 1 + 1 ≡ length s - 1 = omega (arith, star.some) in
            absurd (omega (arith, star.last, rw e at (at_most (i - 1) (omega (arith, star.some))))))
      ] in
      record {
        station = below;
        from = past l i below at_most;
        to = omega (arith, ends-at s i below, leb-false _ _ (high i 0 (omega arith) (omega (arith, length-take (length s - 1) (drop 1 s), length-drop 1 s))));
      }

  -- a link that is not one of station s's has another tail
  pub tail-not : (l s : ℕ) → l < link_count t → (Leaves t l s → ⊥) → eqb (tail_at t l) s ≡ false
  tail-not l s h other = ne_eqb _ _ (λ e. other (subst (λ x. Leaves t l x) e (tail-leaves l h)))

  -- the links of a station end where there are links at most
  pub first_link-below : (s : ℕ) → s ≤ station_count t → first_link t s ≤ link_count t
  first_link-below s h = omega (arith, star.last, rises t.starts star.rising s (station_count t) 0 h (omega (arith, star.some)))

  -- every head is a station
  pub lands : (l : ℕ) → l < link_count t → head_at t l < station_count t
  lands l h = omega (arith, star.within l h)
