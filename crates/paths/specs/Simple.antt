-- Simple paths, and the list of all of them.
use Rattle.std.specs.Prelude.{ℕ, zero, suc, ◌<◌, Bool, true, if◌then◌else◌, not, ◌&&◌, ◌||◌, List, [], ◌∷◌, ◌++◌, map, reverse, length, ◌==◌}
use Rattle.net.specs.Table.{Table, station_count, link_count, head_at, tail_at}
use Rattle.paths.specs.Lists.{In, NoDup}
use Rattle.paths.specs.Path.{Leads, stations_on}

-- a path of at least one link that meets no station twice; it may begin at any station
pub record Simple (t : Table) (p : List ℕ) : Type 0 where
  pub some : 0 < length p
  pub from : ℕ
  pub to : ℕ
  pub leads : Leads t from p to
  pub once : NoDup (stations_on t from p)

-- The listing. A path under way is written with its last link first, and named with the station where it ends.

-- p, which ends at v, meets station x
abbrev pub meets : Table → ℕ → List ℕ → ℕ → Bool
meets t x [] v = x == v
meets t x (l ∷ p) v = x == v || meets t x p (tail_at t l)

-- p is a path that ends at v and meets no station twice
abbrev pub simple : Table → List ℕ → ℕ → Bool
simple t [] v = true
simple t (l ∷ p) v = head_at t l == v && (not (meets t v p (tail_at t l)) && simple t p (tail_at t l))

-- the simple paths that lengthen p by one link of those below k
abbrev pub grow : Table → ℕ → List ℕ → List (List ℕ)
grow t zero p = []
grow t (suc l) p = if simple t (l ∷ p) (head_at t l) then (l ∷ p) ∷ grow t l p else grow t l p

abbrev pub grow_all : Table → List (List ℕ) → List (List ℕ)
grow_all t [] = []
grow_all t (p ∷ ps) = grow t (link_count t) p ++ grow_all t ps

-- those with one to k links more than ps
abbrev pub up_to : Table → ℕ → List (List ℕ) → List (List ℕ)
up_to t zero ps = []
up_to t (suc k) ps = grow_all t ps ++ up_to t k (grow_all t ps)

-- all simple paths
abbrev pub simple_paths : Table → List (List ℕ)
simple_paths t = map reverse (up_to t (station_count t) ([] ∷ []))

-- `simple_paths` holds exactly the simple paths, each once
pub record Listed (t : Table) : Type 0 where
  pub sound : (p : List ℕ) → In p (simple_paths t) → Simple t p
  pub complete : (p : List ℕ) → Simple t p → In p (simple_paths t)
  pub once : NoDup (simple_paths t)
