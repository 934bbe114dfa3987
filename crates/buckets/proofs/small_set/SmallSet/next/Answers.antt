-- Each of the three ways gives what the search finds.
use Rattle.std.proofs.Common.{arith}
use Rattle.buckets.proofs.Bits.{next-high, next_low, next-empty}
use Rattle.buckets.proofs.small_set.SmallSet.next.Goals as goal

pub returns-then-high-ne0 : goal.returns-then-high-ne0
returns-then-high-ne0 c = let found = next-high c.args.self.now.word c.args.at (omega arith) (omega arith) in cc

pub returns-then-self-ne0 : goal.returns-then-self-ne0
returns-then-self-ne0 c = let found = next_low c.args.self.now.word c.args.at (omega arith) (omega arith) (omega arith) in cc

pub returns-else-self-ne0 : goal.returns-else-self-ne0
returns-else-self-ne0 c = let found = next-empty c.args.self.now.word c.args.at (omega arith) (omega arith) in cc
