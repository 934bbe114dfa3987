-- Paths: each link begins where the one before ends.
use Rattle.std.specs.Prelude.{◌≡◌, ℕ, ◌<◌, List, [], ◌∷◌}
use Rattle.net.specs.Table.{Table, station_count, link_count, head_at, tail_at}

-- the links of p lead from station a to station b; the empty path leads from a station to itself
abbrev pub Leads : Table → ℕ → List ℕ → ℕ → Type 0
Leads t a [] b = (a < station_count t) × (a ≡ b)
Leads t a (l ∷ p) b = (l < link_count t) × (tail_at t l ≡ a) × Leads t (head_at t l) p b

-- p is a path from station a
abbrev pub PathFrom : Table → ℕ → List ℕ → Type 0
PathFrom t a p = (b : ℕ) × Leads t a p b

-- the stations that p meets, from a on
abbrev pub stations_on : Table → ℕ → List ℕ → List ℕ
stations_on t a [] = a ∷ []
stations_on t a (l ∷ p) = a ∷ stations_on t (head_at t l) p
