use Rattle.std.proofs.Common.{arith}
use Rattle.net.specs.View.{table_of}
use Rattle.net.proofs.Tails.{star_of}
use Rattle.paths.proofs.Marks.{onward-decides, at-end}
use Rattle.paths.proofs.simple.leads_on.Goals as goal

pub loop-link-init : goal.loop-link-init
loop-link-init c =
    let star = star_of c.args.net.now in
    onward-decides star c.args.way.now 1024 c.args.from (omega (arith, star.few)) c.requires.some c.requires.begins

pub returns : goal.returns
returns c =
    let l = c.loop-link in
    at-end (table_of c.args.net.now) l.met c.args.way.now l.link-index l.at (omega arith) l.invariant
