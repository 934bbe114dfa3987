-- Which stations a branch has.
use Rattle.std.specs.Prelude.{ℕ, Bool, false, slice_index_or}
use Rattle.walks.specs.declared.branch.Branch.{Branch}

abbrev pub marked : Branch → ℕ → Bool
marked b v = slice_index_or b.marks v false
