-- The word loses the bit b and no other.
use Rattle.std.proofs.Common.{arith}
use Rattle.buckets.proofs.Bits.{bit-taken}
use Rattle.buckets.proofs.small_set.SmallSet.remove.Goals as goal

pub returns : goal.returns
returns c = bit-taken c.args.self.now.word c.args.b c.requires (omega arith)
