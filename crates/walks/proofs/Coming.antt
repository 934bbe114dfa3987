-- When the backward walk from a station comes to the root: it begins there, or moves to a station from which it comes there.
use Rattle.std.proofs.Common.{◌≡◌, ℕ, zero, suc, ◌<◌, ◌≤◌, Bool, true, false, ◌⊎◌, eqb, List, get_or, refl, inl, inr, arith}
use Rattle.std.proofs.lemmas.Bool.{cases_Bool, eq-eqb, eqb-true, or_cases, or_left, or_right, false_from_ne_true}
use Rattle.net.specs.Table.{Table, ForwardStar, station_count, tail_at}
use Rattle.net.proofs.Tails.{tail-leaves}
use Rattle.walks.specs.Walk.{entry_at, moves, MovesTo, met_back, comes}
use Rattle.walks.specs.Search.{Reached}
use Rattle.walks.proofs.Searching.{moves-parts, moves-station}

module _ (t : Table) (entries : List ℕ) (root : ℕ) where
  pub comes_there : (k v : ℕ) → v ≡ root → comes t entries root k v ≡ true
  unfolding met_back
  comes_there zero v there = or_left _ _ (eq-eqb v root there)
  comes_there (suc k) v there = or_left _ _ (eq-eqb v root there)

  comes_to : (k v u : ℕ) → MovesTo t entries v u → comes t entries root k u ≡ true → comes t entries root (suc k) v ≡ true
  unfolding met_back
  comes_to k v u to later = rw (to.0, to.1) (or_right _ _ later)

  comes-none : (v : ℕ) → comes t entries root 0 v ≡ true → v ≡ root
  unfolding met_back
  comes-none v met = elim (or_cases (eqb v root) _ met) [ inl there ↦ eqb-true v root there | inr none ↦ absurd cc ]

  comes-parts : (k v : ℕ) → comes t entries root (suc k) v ≡ true
      → (v ≡ root) ⊎ ((moves t entries v ≡ true) × (comes t entries root k (tail_at t (entry_at entries v)) ≡ true))
  unfolding met_back
  comes-parts k v met =
      elim (or_cases (eqb v root) _ met) [
        | inl there ↦ inl (eqb-true v root there)
        | inr later ↦ elim (cases_Bool (moves t entries v)) [
          | inl on ↦ inr (on, rw on at later)
          | inr still ↦ let none = rw still at later in absurd cc
        ]
      ]

  -- where it comes in k moves it comes in more
  pub comes_more : (k j v : ℕ) → k ≤ j → comes t entries root k v ≡ true → comes t entries root j v ≡ true
  comes_more zero j v few met = comes_there j v (comes-none v met)
  comes_more (suc k) zero v few met = absurd (omega arith)
  comes_more (suc k) (suc j) v few met =
      elim (comes-parts k v met) [
        | inl there ↦ comes_there (suc j) v there
        | inr (on, later) ↦ comes_to j v _ (on, refl) (comes_more k j _ (omega arith) later)
      ]

  -- the first station of the queue is the root: the walk from the one at place i comes to it in at most i moves
  pub place_comes : (m : ℕ → Bool) (q : List ℕ) (count : ℕ) → Reached t entries m q count → get_or q 0 0 ≡ root
      → (b i : ℕ) → i < b → i < count → comes t entries root i (get_or q i 0) ≡ true
  place_comes m q count reached begins zero i l r = absurd (omega arith)
  place_comes m q count reached begins (suc b) zero l r = comes_there 0 (get_or q 0 0) begins
  place_comes m q count reached begins (suc b) (suc i) l r =
      let (j, before, to) = reached.moved (suc i) (omega arith) r in
      comes_to i (get_or q (suc i) 0) (get_or q j 0) to
      (comes_more j i _ (omega arith) (place_comes m q count reached begins b j (omega arith) (omega arith)))

  -- where the root is marked, and those whose walk moves to one that is marked, all are whose walk comes to it
  pub comes_marked : (m : ℕ → Bool) → m root ≡ true → ((u v : ℕ) → m u ≡ true → MovesTo t entries v u → m v ≡ true)
      → (k v : ℕ) → comes t entries root k v ≡ true → m v ≡ true
  comes_marked m rooted to zero v met = rw (comes-none v met) rooted
  comes_marked m rooted to (suc k) v met =
      elim (comes-parts k v met) [
        | inl there ↦ rw there rooted
        | inr (on, later) ↦ to (tail_at t (entry_at entries v)) v (comes_marked m rooted to k _ later) (on, refl)
      ]

module _ {t : Table} (star : ForwardStar t) (entries : List ℕ) (root : ℕ) where
  -- from a station it comes to a station
  comes-station : (k v : ℕ) → v < station_count t → comes t entries root k v ≡ true → root < station_count t
  comes-station zero v below met = rw (← comes-none t entries root v met) below
  comes-station (suc k) v below met =
      elim (comes-parts t entries root k v met) [
        | inl there ↦ rw (← there) below
        | inr (on, later) ↦ comes-station k _ ((tail-leaves star _ (moves-parts t entries v on).0).station) later
      ]

  pub comes-no_station : station_count t ≤ root → (k v : ℕ) → v < station_count t → comes t entries root k v ≡ false
  comes-no_station past k v below = false_from_ne_true _ (λ met. absurd (omega (arith, comes-station k v below met)))

  -- to a station it comes from a station
  comes-from_station : root < station_count t → (k v : ℕ) → comes t entries root k v ≡ true → v < station_count t
  comes-from_station below zero v met = rw (comes-none t entries root v met) below
  comes-from_station below (suc k) v met =
      elim (comes-parts t entries root k v met) [
        | inl there ↦ rw there below
        | inr (on, _) ↦ moves-station star entries v on
      ]

  pub comes-from_none : root < station_count t → (k v : ℕ) → station_count t ≤ v → comes t entries root k v ≡ false
  comes-from_none below k v past = false_from_ne_true _ (λ met. absurd (omega (arith, comes-from_station below k v met)))
