use Rattle.std.proofs.Common.{ℕ, ◌<◌, Bool, arith}
use Rattle.net.specs.View.{table_of}
use Rattle.net.proofs.Tails.{star_of}
use Rattle.walks.specs.Branches.{marked}
use Rattle.runs.specs.Regrade.{wakes}
use Rattle.book.proofs.Entering.{passed-enters, passed-over}
use Rattle.book.proofs.waking.wake.Goals as goal
use Rattle.book.proofs.waking.wake.Goals.{then-wakes+in_ok-new, else-wakes}

pub loop-station-preserved : goal.loop-station-preserved
loop-station-preserved g c =
    let p : ℕ → Bool = wakes (table_of c.args.net.now) (marked c.args.lost.now) c.args.entries.now in
    let below : c.loop-station.station < 1024 = omega (arith, (star_of c.args.net.now).few) in
    elim c.if-wakes.branch [
      | then-wakes+in_ok-new w ↦ rw (w.list-is, w.new-is) (passed-enters _ g.met.L.CandidateList.lawful p below w.if-wakes.ensures c.loop-station.invariant w.in_ok-new.ensures)
      | else-wakes w ↦ rw (w.list-is, w.new-is) (passed-over _ p w.if-wakes.ensures c.loop-station.invariant)
    ]
