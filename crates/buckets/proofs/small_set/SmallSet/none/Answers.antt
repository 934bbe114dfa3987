-- The word 0 has no bit.
use Rattle.buckets.proofs.Bits.{bit-none}
use Rattle.buckets.proofs.small_set.SmallSet.none.Goals as goal

pub returns : goal.returns
returns c = bit-none
