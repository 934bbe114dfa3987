use Rattle.std.proofs.Common.{◌≡◌, take, Ok, sym, ◌∙◌, take_all, arith, rules}
use Rattle.answers.specs.Listing.{spaced_items}
use Rattle.answers.proofs.Shown.{shows_from, displays_from, shows_then, spaced_items-take}
use Rattle.answers.proofs.values.ValuesDisplay.fmt.Goals as goal

pub loop-value-preserved : goal.loop-value-preserved
loop-value-preserved g c =
    let items = c.as_slice-value-items.result.now in
    λ plain. rw (spaced_items-take g.T.Display.output items c.loop-value.value-index c.value-item.result (search rules) c.value-item.is)
    (shows_then g.W.Write.write_str_gives _ c.loop-value.f _ _ _ (c.loop-value.invariant plain)
    (λ still. shows_from g.W.Write.write_str_gives _ _ c.write.result _ c.write.ensures.writes still (search rules)))

pub returns-clause-writes : goal.returns-clause-writes
returns-clause-writes g c =
    let items = c.as_slice-value-items.result.now in
    let all : take c.loop-value.value-index items ≡ c.args.self.now =
    take_all c.loop-value.value-index items (omega arith) ∙ c.as_slice-value-items.ensures.value ∙ c.self.view_is in
    rw (sym all) (displays_from g.W.Write.write_str_gives c.args.f.now c.loop-value.f (Ok tt) (spaced_items g.T.Display.output (take c.loop-value.value-index items))
    (λ plain done. c.loop-value.invariant plain))
