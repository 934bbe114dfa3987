-- Why a list of links that an installer proposes is no path, if it is none.
use Rattle.std.specs.Prelude.{ℕ, ◌+◌, if◌then◌else◌, List, [], ◌∷◌, Some, None, Option, ◌==◌, nat_lt}
use Rattle.net.specs.Table.{Table, station_count, link_count, head_at, tail_at}
use Rattle.paths.specs.declared.grade.NotPath.{NotPath}
use Rattle.paths.specs.declared.grade.NotPath.TheVariants.{Grades, NoStation, NoLink, Parted}

-- the first place, counted from i, at which the list is no path from station a
abbrev pub breaks : Table → ℕ → ℕ → List ℕ → Option NotPath
breaks t i a [] = None
breaks t i a (l ∷ p) =
    if nat_lt l (link_count t)
    then (if tail_at t l == a then breaks t (i + 1) (head_at t l) p else Some (Parted i))
    else Some (NoLink i)

-- why the list has no grade, given how many grades there are, as a path from station a
abbrev pub not_path : Table → ℕ → ℕ → List ℕ → Option NotPath
not_path t count a p =
    if count == link_count t
    then (if nat_lt a (station_count t) then breaks t 0 a p else Some NoStation)
    else Some Grades
