-- What the search keeps when a station joins, and which stations are marked when the links of one are gone through.
use Rattle.std.proofs.Common.{◌≡◌, ℕ, ◌+◌, ◌<◌, ◌≤◌, Bool, true, ◌||◌, eqb, ltb, List, length, get_or, set, sym, ap, ◌∙◌, subst, inl, inr, arith, get_or-set_same, get_or-set_other}
use Rattle.std.proofs.lemmas.Bool.{cases_lt, eq-eqb, eqb-true, ltb-true, and_parts, or_cases, or_left, or_right}
use Rattle.net.specs.Table.{Table, ForwardStar, Leaves, station_count, link_count, head_at, tail_at}
use Rattle.net.proofs.Tails.{tail-is, tail-leaves, lands}
use Rattle.walks.specs.Walk.{entry_at, moves, MovesOver, MovesTo}
use Rattle.walks.specs.Search.{Reached, Kept}

-- the entry of a station from which the walk moves is a link to it
pub moves-parts : (t : Table) (entries : List ℕ) (v : ℕ) → moves t entries v ≡ true → (entry_at entries v < link_count t) × (head_at t (entry_at entries v) ≡ v)
moves-parts t entries v on =
    let p = and_parts (ltb (entry_at entries v) (link_count t)) _ on in
    (ltb-true _ _ p.0, eqb-true _ _ p.1)

-- only one walk moves over a link
pub moves_over-one : (t : Table) (entries : List ℕ) (k v w : ℕ) → MovesOver t entries k v → MovesOver t entries k w → v ≡ w
moves_over-one t entries k v w over over' =
    let p = moves-parts t entries v over.0 in
    let q = moves-parts t entries w over'.0 in
    sym p.1 ∙ ap (head_at t) (over.1 ∙ sym over'.1) ∙ q.1

module _ {t : Table} (star : ForwardStar t) (entries : List ℕ) where
  -- the walk moves from stations of the net alone
  pub moves-station : (v : ℕ) → moves t entries v ≡ true → v < station_count t
  moves-station v on =
      let parts = moves-parts t entries v on in
      subst (λ x. x < station_count t) parts.1 (lands star _ parts.0)

  -- the link is one of those of the station to which the walk moves
  pub moves_to-leaves : (v u : ℕ) → MovesTo t entries v u → Leaves t (entry_at entries v) u
  moves_to-leaves v u to = subst (λ x. Leaves t (entry_at entries v) x) to.1 (tail-leaves star (entry_at entries v) (moves-parts t entries v to.0).0)

  -- a move over a link of station u is one to u
  pub moves_over-to : (k v u : ℕ) → MovesOver t entries k v → Leaves t k u → MovesTo t entries v u
  moves_over-to k v u over leaves = (over.0, ap (tail_at t) over.1 ∙ tail-is star k u leaves)

-- Station x joins those that are marked, and stands behind the others in the queue.
module _ (m m' : ℕ → Bool) (q q' : List ℕ) (count count' x : ℕ)
    (marks : (v : ℕ) → m' v ≡ (eqb v x || m v)) (queue : q' ≡ set q count x) (more : count' ≡ count + 1) where
  -- a place before it is as it was
  before_it : (i : ℕ) → i < count → get_or q' i 0 ≡ get_or q i 0
  before_it i l = ap (λ p. get_or p i 0) queue ∙ get_or-set_other q count i x 0 (omega arith)

  its_place : count < length q → get_or q' count 0 ≡ x
  its_place room = ap (λ p. get_or p count 0) queue ∙ get_or-set_same q count x 0 room

  pub kept_more : Kept m q count m' q' count'
  kept_more = record {
    marks = λ v e. marks v ∙ or_right _ _ e;
    places = before_it;
    more = omega arith;
  }

  -- its walk moves to the station at place j
  pub reached_more : (t : Table) (entries : List ℕ) (j : ℕ) → count < length q → j < count → MovesTo t entries x (get_or q j 0)
      → Reached t entries m q count → Reached t entries m' q' count'
  reached_more t entries j room early to r = record {
    listed = λ v e. elim (or_cases (eqb v x) (m v) (sym (marks v) ∙ e)) [
      | inl same ↦ (count, omega arith, its_place room ∙ sym (eqb-true v x same))
      | inr old ↦
          let (i, l, is) = r.listed v old in
          (i, omega arith, before_it i l ∙ is)
    ];
    moved = λ i some l. elim (cases_lt i count) [
      | inl below ↦
          let (k, before, to') = r.moved i some below in
          (k, before, rw (before_it i below, before_it k (omega arith)) to')
      | inr last ↦
          let here : i ≡ count = omega arith in
          (j, omega arith, rw (here, its_place room, before_it j early) to)
    ];
  }

  -- where the entry of a station is a link from the lowest up to k, and not k, the station is marked; x is the head of link k, its entry: now k counts too
  pub passed_more : (t : Table) (entries : List ℕ) (low k : ℕ) → MovesOver t entries k x
      → ((v : ℕ) → moves t entries v ≡ true → low ≤ entry_at entries v → entry_at entries v < k → m v ≡ true)
      → (v : ℕ) → moves t entries v ≡ true → low ≤ entry_at entries v → entry_at entries v < k + 1 → m' v ≡ true
  passed_more t entries low k over passed v on least below =
      elim (cases_lt (entry_at entries v) k) [
        | inl l ↦ marks v ∙ or_right _ _ (passed v on least l)
        | inr last ↦ marks v ∙ or_left _ _ (eq-eqb v x (moves_over-one t entries k v x (on, omega arith) over))
      ]

pub kept_then : (m m' m'' : ℕ → Bool) (q q' q'' : List ℕ) (n n' n'' : ℕ) → Kept m q n m' q' n' → Kept m' q' n' m'' q'' n'' → Kept m q n m'' q'' n''
kept_then m m' m'' q q' q'' n n' n'' a b = record {
  marks = λ v e. b.marks v (a.marks v e);
  places = λ i l. b.places i (omega (arith, a.more)) ∙ a.places i l;
  more = omega (arith, a.more, b.more);
}
