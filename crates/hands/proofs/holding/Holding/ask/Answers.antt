use Rattle.std.proofs.Common.{rules}
use Rattle.net.specs.View.{table_of}
use Rattle.hands.specs.Calls.{Lawful}
use Rattle.hands.proofs.Lifted.{called}
use Rattle.hands.proofs.holding.Holding.ask.Goals as goal

pub returns-in-Ok : goal.returns-in-Ok
returns-in-Ok g c =
    called g.K.Label.ToLabel.label (Lawful g.K.Kind (table_of c.args.net.now)) _ _ (search rules) (search rules) (
      rw (c.as_slice.ensures.value, c.as_slice-2.ensures.value, c.as_slice-3.ensures.value) at c.in-Ok.ensures.does,
      rw (c.as_slice.ensures.value, c.as_slice-2.ensures.value, c.as_slice-3.ensures.value) at c.in-Ok.ensures.law,
    )

pub returns-in-Err : goal.returns-in-Err
returns-in-Err g c =
    called g.K.Label.ToLabel.label (Lawful g.K.Kind (table_of c.args.net.now)) _ _ (search rules) (search rules) (
      rw (c.as_slice.ensures.value, c.as_slice-2.ensures.value, c.as_slice-3.ensures.value) at c.in-Err.ensures.does,
      rw (c.as_slice.ensures.value, c.as_slice-2.ensures.value, c.as_slice-3.ensures.value) at c.in-Err.ensures.law,
    )
