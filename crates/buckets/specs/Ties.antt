-- What the links of chains say. A number from 1024 on is the end of a chain.
use Rattle.std.specs.Prelude.{ℕ, zero, suc, ◌+◌, Bool, false, if◌then◌else◌, ◌&&◌, List, [], ◌∷◌, Some, None, Option, ◌==◌, nat_lt, slice_index}

-- at most n stations, from x on, up to the end of its chain
unfoldable pub chain : List ℕ → ℕ → ℕ → List ℕ
chain next zero x = []
chain next (suc n) x = if nat_lt x 1024 then x ∷ chain next n (slice_index next x) else []

-- the stations of the chain b, from the oldest on
abbrev pub row_of : List ℕ → ℕ → List ℕ
row_of next b = chain next 1024 (slice_index next (1024 + b))

-- from a by xs to z, forth and back
abbrev pub linked : (ℕ → ℕ) → (ℕ → ℕ) → ℕ → List ℕ → ℕ → Bool
linked nx pv a [] z = nx a == z && pv z == a
linked nx pv a (x ∷ xs) z = nx a == x && (pv x == a && linked nx pv x xs z)

-- whether a home is the chain b
abbrev pub is_home : Option ℕ → ℕ → Bool
is_home None b = false
is_home (Some c) b = c == b
