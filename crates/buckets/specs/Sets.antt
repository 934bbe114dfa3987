-- Which numbers a word holds, one bit for each.
use Rattle.std.specs.Prelude.{ℕ, Bool, ◌==◌}
use Rattle.std.specs.Int.{bit_at}
use Rattle.buckets.specs.declared.small_set.SmallSet.{SmallSet}

unfoldable pub has_bit : ℕ → ℕ → Bool
has_bit w k = bit_at w k == 1

abbrev pub member : SmallSet → ℕ → Bool
member s k = has_bit s.word k
