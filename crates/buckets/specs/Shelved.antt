-- The rows that shelves have.
use Rattle.std.specs.Prelude.{ℕ, List, map}
use Rattle.std.specs.List.{range_with_len}
use Rattle.buckets.specs.Links.{row}
use Rattle.buckets.specs.declared.shelves.Shelves.{Shelves}

-- each a queue, the oldest station first
unfoldable pub rows_of : Shelves → List (List ℕ)
rows_of s = map (row s.chains) (range_with_len 0 s.count)
