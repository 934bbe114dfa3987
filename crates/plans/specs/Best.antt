-- Trees of best paths. No step of a planner or of a check is named here.
use Rattle.std.specs.Prelude.{◌≡◌, ℕ, ◌<◌, true, List, Some, IsSomeAnd}
use Rattle.kinds.specs.declared.kind.Kind.{Ghosts as Kind}
use Rattle.kinds.specs.Order.{AtLeast}
use Rattle.net.specs.Table.{Table, station_count}
use Rattle.paths.specs.Grade.{path_grade}
use Rattle.paths.specs.Path.{Leads}
use Rattle.walks.specs.Walk.{own, entry_at, labelled, entry_path}
use Rattle.plans.specs.Plan.{Plan, graded, sized, label_at}

module _ {K L G : Type 0} (k : Kind K L G) (t : Table) (gateway : ℕ) (grades : List G) (p : Plan L) where
  -- Each station has the best of its paths from the gateway.
  pub record BestPaths : Type 0 where
    pub gate : entry_at p.entries gateway ≡ own
    -- the entry path of a labelled station leads to it from the gateway, and its grade is the station's label
    pub path : (v : ℕ) → labelled p.entries v ≡ true → Leads t gateway (entry_path t p.entries v) v
    pub grade : (v : ℕ) → labelled p.entries v ≡ true → path_grade k grades (entry_path t p.entries v) ≡ Some (label_at k p v)
    -- a station to which a path leads is labelled, and its label is at least as good as the path's grade, so no path to it is better
    pub found : (v : ℕ) (way : List ℕ) → Leads t gateway way v → labelled p.entries v ≡ true
    pub best : (v : ℕ) (way : List ℕ) → Leads t gateway way v → IsSomeAnd (path_grade k grades way) (λ x. AtLeast k (label_at k p v) x)

  -- Lists of the lengths that the net asks for, with a station of it as the gateway, are a tree of best paths.
  pub record BestTree : Type 0 where
    pub graded : graded t grades ≡ true
    pub sized : sized t p ≡ true
    pub station : gateway < station_count t
    pub paths : BestPaths
