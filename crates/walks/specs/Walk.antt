-- The backward walk: from a station by its entry link to the link's tail, and on from there. The entries may hold anything.
use Rattle.std.specs.Prelude.{◌≡◌, ℕ, zero, suc, Bool, true, if◌then◌else◌, not, ◌&&◌, List, [], ◌∷◌, reverse, Some, None, Option, ◌==◌, nat_lt, slice_index_or}
use Rattle.std.specs.List.{list_any}
use Rattle.net.specs.Table.{Table, station_count, link_count, head_at, tail_at}

-- the entry of a station without a label, and the gateway's own; neither is a link, since there are at most 4096
abbrev pub unlabelled : ℕ
unlabelled = 65535

abbrev pub own : ℕ
own = 65534

-- the entry of station v, which has none past the end of the list
abbrev pub entry_at : List ℕ → ℕ → ℕ
entry_at entries v = slice_index_or entries v unlabelled

abbrev pub labelled : List ℕ → ℕ → Bool
labelled entries v = not (entry_at entries v == unlabelled)

module _ (t : Table) (entries : List ℕ) where
  -- the entry of station v is a link that leads to v
  abbrev pub moves : ℕ → Bool
  moves v = nat_lt (entry_at entries v) (link_count t) && head_at t (entry_at entries v) == v

  -- the backward walk moves from station v over link l
  abbrev pub MovesOver : ℕ → ℕ → Type 0
  MovesOver l v = (moves v ≡ true) × (entry_at entries v ≡ l)

  -- the backward walk moves from station v to station u
  abbrev pub MovesTo : ℕ → ℕ → Type 0
  MovesTo v u = (moves v ≡ true) × (tail_at t (entry_at entries v) ≡ u)

  -- the station to which the walk moves from v, if it moves
  abbrev pub before : ℕ → Option ℕ
  before v = if moves v then Some (tail_at t (entry_at entries v)) else None

  -- the links of the walk from v in at most k moves, the last link of the way first
  unfoldable pub walk : ℕ → ℕ → List ℕ
  walk zero v = []
  walk (suc k) v = if moves v then entry_at entries v ∷ walk k (tail_at t (entry_at entries v)) else []

  -- the station that this walk comes to
  unfoldable pub walk_end : ℕ → ℕ → ℕ
  walk_end zero v = v
  walk_end (suc k) v = if moves v then walk_end k (tail_at t (entry_at entries v)) else v

  -- the backward walk makes at most as many moves as there are stations; its links in the order of travel are the entry path
  abbrev pub entry_path : ℕ → List ℕ
  entry_path v = reverse (walk (station_count t) v)

  -- the backward walk from v meets link l
  abbrev pub crosses : ℕ → ℕ → Bool
  crosses l v = list_any (λ k. k == l) (walk (station_count t) v)

  -- the stations that the walk from v meets in at most k moves, v first
  unfoldable pub met_back : ℕ → ℕ → List ℕ
  met_back zero v = v ∷ []
  met_back (suc k) v = v ∷ (if moves v then met_back k (tail_at t (entry_at entries v)) else [])

  -- the backward walk from v comes to station x in at most k moves
  abbrev pub comes : ℕ → ℕ → ℕ → Bool
  comes x k v = list_any (λ u. u == x) (met_back k v)

  -- the backward walk from v meets station x
  abbrev pub passes : ℕ → ℕ → Bool
  passes x v = comes x (station_count t) v

  -- the backward walk from v stops at the gateway, with the gateway's own entry
  abbrev pub comes_home : ℕ → ℕ → Bool
  comes_home gateway v = walk_end (station_count t) v == gateway && entry_at entries gateway == own
