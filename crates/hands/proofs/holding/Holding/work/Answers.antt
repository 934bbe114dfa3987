use Rattle.std.proofs.Common.{arith, rules}
use Rattle.std.proofs.lemmas.List.{with_items_is}
use Rattle.net.specs.View.{table_of}
use Rattle.hands.specs.Calls.{Lawful}
use Rattle.hands.proofs.Lifted.{called}
use Rattle.hands.proofs.holding.Holding.work.Goals as goal

pub returns-in-Ok : goal.returns-in-Ok
returns-in-Ok g c =
    let labels = with_items_is c.args.self.now.labels c.work.new.labels (omega arith) in
    let entries = with_items_is c.args.self.now.entries c.work.new.entries (omega arith) in
    rw (labels, entries)
    (called g.K.Label.ToLabel.label (Lawful g.K.Kind (table_of c.args.net.now)) _ _ (search rules) (search rules) (
      rw (c.as_slice.ensures.value, c.as_mut_slice.ensures.value, c.as_mut_slice-2.ensures.value) at c.in-Ok.ensures.does,
      rw (c.as_slice.ensures.value, c.as_mut_slice.ensures.value, c.as_mut_slice-2.ensures.value) at c.in-Ok.ensures.law,
    ))

pub returns-in-Err : goal.returns-in-Err
returns-in-Err g c =
    let labels = with_items_is c.args.self.now.labels c.work.new.labels (omega arith) in
    let entries = with_items_is c.args.self.now.entries c.work.new.entries (omega arith) in
    rw (labels, entries)
    (called g.K.Label.ToLabel.label (Lawful g.K.Kind (table_of c.args.net.now)) _ _ (search rules) (search rules) (
      rw (c.as_slice.ensures.value, c.as_mut_slice.ensures.value, c.as_mut_slice-2.ensures.value) at c.in-Err.ensures.does,
      rw (c.as_slice.ensures.value, c.as_mut_slice.ensures.value, c.as_mut_slice-2.ensures.value) at c.in-Err.ensures.law,
    ))
