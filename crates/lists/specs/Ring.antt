-- What stands in a ring of 1024 places.
use Rattle.std.specs.Prelude.{ℕ, zero, suc, ◌+◌, ◌%◌, List, [], ◌∷◌, map, slice_index}
use Rattle.lists.specs.declared.station.Station.{Station}

-- n stations of the ring, from place h on
abbrev pub ring_from : List ℕ → ℕ → ℕ → List ℕ
ring_from ring h zero = []
ring_from ring h (suc n) = slice_index ring h ∷ ring_from ring ((h + 1) % 1024) n

-- the numbers of stations
abbrev pub numbers_of : List Station → List ℕ
numbers_of ss = map (λ (s : Station). s.index) ss
