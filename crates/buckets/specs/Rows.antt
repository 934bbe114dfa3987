-- Rows of stations, each a queue with the oldest station first: what they hold, one station less, one station more.
use Rattle.std.specs.Prelude.{◌≡◌, ℕ, Bool, true, false, ◌||◌, List, [], ◌∷◌, ◌++◌, map, Some, None, Option, ◌==◌, slice_index_or, slice_set, if◌then◌else◌}
use Rattle.lists.specs.Stations.{holds}

-- whether the row has a station
abbrev pub filled : List ℕ → Bool
filled [] = false
filled (x ∷ xs) = true

-- the row less the station x
abbrev pub without : ℕ → List ℕ → List ℕ
without x [] = []
without x (y ∷ ys) = if x == y then without x ys else y ∷ without x ys

-- whether some row holds the station x
abbrev pub in_rows : List (List ℕ) → ℕ → Bool
in_rows [] x = false
in_rows (row ∷ rows) x = holds row x || in_rows rows x

-- the station x goes to the end of the row b
abbrev pub join_row : List (List ℕ) → ℕ → ℕ → List (List ℕ)
join_row rows b x = slice_set rows b (slice_index_or rows b [] ++ x ∷ [])

-- the station x leaves the row that held it and goes to the end of the row b; if the row b holds it already, nothing changes
abbrev pub placed : List (List ℕ) → ℕ → ℕ → List (List ℕ)
placed rows b x = if holds (slice_index_or rows b []) x then rows else join_row (map (without x) rows) b x

-- the row that holds the station x, and it alone
abbrev pub home_in : List (List ℕ) → ℕ → Option ℕ → Type 0
home_in rows x None = in_rows rows x ≡ false
home_in rows x (Some b) = (k : ℕ) → holds (slice_index_or rows k []) x ≡ (k == b)
