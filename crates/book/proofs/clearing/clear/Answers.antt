use Rattle.std.proofs.Common.{◌≡◌, arith}
use Rattle.net.specs.Table.{station_count}
use Rattle.net.specs.View.{table_of}
use Rattle.book.proofs.Wiping.{wiped-all}
use Rattle.book.proofs.clearing.clear.Goals as goal

pub returns : goal.returns
returns g c =
    let l = c.loop-station in
    let n = station_count (table_of c.args.net.now) in
    let end : l.station ≡ n = omega arith in
    rw (wiped-all _ _ n end c.requires.labels l.invariant.labels, wiped-all _ _ n end c.requires.entries l.invariant.entries)
