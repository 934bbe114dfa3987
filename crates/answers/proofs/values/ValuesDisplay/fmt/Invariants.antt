use Rattle.std.proofs.Common.{take}
use Rattle.std.specs.Fmt.{IsPlainFormatter}
use Rattle.answers.specs.Listing.{spaced_items}
use Rattle.answers.proofs.Shown.{Shows}
use Rattle.answers.proofs.values.ValuesDisplay.fmt.Given as goal

abbrev pub invariant-loop-value : goal.invariant-loop-value
invariant-loop-value g l =
    IsPlainFormatter l.initial.f → Shows g.W.Write.write_str_gives l.initial.f (spaced_items g.T.Display.output (take l.value-index l.value-items)) l.f
