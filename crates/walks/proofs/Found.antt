-- What a search that is over has marked: the stations whose backward walk comes to the root.
use Rattle.std.proofs.Common.{◌≡◌, ℕ, ◌+◌, ◌<◌, ◌≤◌, Bool, true, false, List, get_or, sym, subst, inl, inr, refl, arith}
use Rattle.std.proofs.lemmas.Bool.{cases_lt, false_from_ne_true}
use Rattle.std.proofs.lemmas.Bool.Decides.{same_from_decides}
use Rattle.lists.specs.Meaning.{count_below}
use Rattle.lists.specs.Counts.{count_most}
use Rattle.net.specs.Table.{Table, ForwardStar, station_count}
use Rattle.walks.specs.Walk.{MovesTo, comes}
use Rattle.walks.specs.Search.{Reached}
use Rattle.walks.proofs.Marks.{counted_stations}
use Rattle.walks.proofs.Searching.{moves-station}
use Rattle.walks.proofs.Coming.{comes_more, comes_marked, place_comes}

-- what the search keeps as it goes through the queue, up to place `at`
pub record Searched (t : Table) (entries : List ℕ) (root : ℕ) (m : ℕ → Bool) (q : List ℕ) (count at : ℕ) : Type 0 where
  pub reached : Reached t entries m q count
  pub begins : get_or q 0 0 ≡ root
  pub rooted : m root ≡ true
  pub passed : (i : ℕ) → i < at → (v : ℕ) → MovesTo t entries v (get_or q i 0) → m v ≡ true

module _ {t : Table} (star : ForwardStar t) (entries : List ℕ) (root : ℕ) (station : root < station_count t) (m : ℕ → Bool) (q : List ℕ) (count at : ℕ)
    (counted : count ≡ count_below m 1024) (s : Searched t entries root m q count at) (done : count ≤ at) where
  place-station : (i : ℕ) → i < count → get_or q i 0 < station_count t
  place-station i r = elim (cases_lt 0 i) [
    | inl some ↦ let (j, _, to) = s.reached.moved i some r in moves-station star entries _ to.0
    | inr none ↦ let first : i ≡ 0 = omega arith in rw (first, s.begins) station
  ]

  unmarked_past : (v : ℕ) → station_count t ≤ v → m v ≡ false
  unmarked_past v past = false_from_ne_true _ (λ e.
      let (i, r, is) = s.reached.listed v e in
      absurd (omega (arith, is, place-station i r)))

  -- there are at most as many places as stations
  few_places : count ≤ station_count t
  few_places = omega (arith, counted, counted_stations star m m (λ v _. refl) unmarked_past, count_most m (station_count t))

  pub found : (k v : ℕ) → station_count t ≤ k + 1 → m v ≡ comes t entries root k v
  found k v enough =
      let to =
      λ (e : m v ≡ true).
      let (i, r, is) = s.reached.listed v e in
      comes_more t entries root i k v (omega (arith, few_places)) (subst (λ x. comes t entries root i x ≡ true) is (place_comes t entries root m q count s.reached s.begins (i + 1) i (omega arith) r)) in
      let passed =
      λ (u w : ℕ) (e : m u ≡ true) (to : MovesTo t entries w u).
      let (i, r, is) = s.reached.listed u e in
      s.passed i (omega arith) w (subst (λ x. MovesTo t entries w x) (sym is) to) in
      same_from_decides (m v) (comes t entries root k v) (to, comes_marked t entries root m s.rooted passed k v) (λ e. e, λ e. e)
