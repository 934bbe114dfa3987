-- The word gains the bit b and no other.
use Rattle.buckets.proofs.Bits.{bit_added}
use Rattle.buckets.proofs.small_set.SmallSet.insert.Goals as goal

pub returns : goal.returns
returns c = bit_added c.args.self.now.word c.args.b c.requires
