use Rattle.std.proofs.Common.{arith}
use Rattle.lists.specs.Counts.{count_most}
use Rattle.net.proofs.Tails.{star_of}
use Rattle.walks.specs.Branches.{marked}
use Rattle.walks.proofs.Found.{found}
use Rattle.walks.proofs.branch.search.grown.Goals as goal

pub overflow_add-at : goal.overflow_add-at
overflow_add-at c =
    let found = c.loop-at.found in
    omega (arith, found.counted, count_most (marked found) 1024)

pub loop-at-smaller : goal.loop-at-smaller
loop-at-smaller c =
    let found = c.loop-at.found in
    omega (arith, found.counted, count_most (marked found) 1024)

pub returns : goal.returns
returns c =
    let l = c.loop-at in
    found (star_of c.args.net.now) c.args.entries.now c.args.root (omega arith) (marked l.found) l.queue l.found.count l.at l.found.counted l.invariant (omega arith)
