-- The grade of a path, over the members of any kind.
use Rattle.std.specs.Prelude.{ℕ, List, Some, None, fold, Option}
use Rattle.std.specs.List.{slice_get}
use Rattle.kinds.specs.declared.kind.Kind.{Ghosts}

module _ {K L G : Type 0} (k : Ghosts K L G) where
  -- the label x carried over a link of this grade, or none where the link has no grade
  abbrev pub carried_over : L → Option G → Option L
  carried_over x None = None
  carried_over x (Some g) = Some (k.carry x g)

  -- what link l makes of a label
  abbrev pub through : List G → Option L → ℕ → Option L
  through grades None l = None
  through grades (Some x) l = carried_over x (slice_get grades l)

  -- the grade of a path: what becomes of the start label along its links
  abbrev pub path_grade : List G → List ℕ → Option L
  path_grade grades p = fold (through grades) (Some k.start) p
