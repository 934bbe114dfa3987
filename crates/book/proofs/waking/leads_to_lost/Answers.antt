use Rattle.std.proofs.Common.{◌+◌, refl, sym, ◌∙◌}
use Rattle.net.specs.Table.{head_at}
use Rattle.net.specs.View.{table_of}
use Rattle.net.proofs.Tails.{star_of, first_link-below}
use Rattle.walks.specs.Branches.{marked}
use Rattle.book.proofs.Losing.{any-found, any-later}
use Rattle.book.proofs.waking.leads_to_lost.Goals as goal

pub loop-link-init : goal.loop-link-init
loop-link-init c =
    let range = c.into_iter-link-iterator.ensures.into_iter_gives in
    let (station, first, end) = c.in-Some.ensures in
    record {
      within = rw (range, end) (first_link-below (star_of c.args.net.now) (c.args.station + 1) station);
      rest = rw (range, first, end) refl;
    }

pub returns-then-has : goal.returns-then-has
returns-then-has c =
    sym (c.loop-link.invariant.rest ∙ any-found (λ j. marked c.args.lost.now (head_at (table_of c.args.net.now) j)) c.loop-link.link-iterator _ _ c.in-Some-link.ensures.steps
    (rw c.heads.ensures at c.if-has.ensures))

pub loop-link-preserved : goal.loop-link-preserved
loop-link-preserved c = record {
  within = rw c.in-Some-link.ensures.steps.0 c.loop-link.invariant.within;
  rest = c.loop-link.invariant.rest ∙ any-later (λ j. marked c.args.lost.now (head_at (table_of c.args.net.now) j)) c.loop-link.link-iterator _ _ c.in-Some-link.ensures.steps
      (rw c.heads.ensures at c.if-has.ensures);
}
