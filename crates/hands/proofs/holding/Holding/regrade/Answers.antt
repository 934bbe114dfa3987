use Rattle.std.proofs.Common.{arith, rules}
use Rattle.std.proofs.lemmas.List.{with_items_is}
use Rattle.net.specs.View.{table_of}
use Rattle.hands.specs.Calls.{Lawful}
use Rattle.hands.proofs.Lifted.{called}
use Rattle.hands.proofs.holding.Holding.regrade.Goals as goal

pub returns-in-Ok-regrade : goal.returns-in-Ok-regrade
returns-in-Ok-regrade g c =
    let grades = with_items_is c.args.self.now.grades c.regrade.new.grades (omega arith) in
    let labels = with_items_is c.args.self.now.labels c.regrade.new.labels (omega arith) in
    let entries = with_items_is c.args.self.now.entries c.regrade.new.entries (omega arith) in
    rw (grades, labels, entries)
    (called g.K.Label.ToLabel.label (Lawful g.K.Kind (table_of c.args.net.now)) _ _ (search rules) (search rules) (
      rw (c.as_mut_slice.ensures.value, c.as_mut_slice-2.ensures.value, c.as_mut_slice-3.ensures.value) at c.in-Ok-regrade.ensures.does,
      rw (c.as_mut_slice.ensures.value, c.as_mut_slice-2.ensures.value, c.as_mut_slice-3.ensures.value) at c.in-Ok-regrade.ensures.law,
    ))

pub returns-in-Err : goal.returns-in-Err
returns-in-Err g c =
    let grades = with_items_is c.args.self.now.grades c.regrade.new.grades (omega arith) in
    let labels = with_items_is c.args.self.now.labels c.regrade.new.labels (omega arith) in
    let entries = with_items_is c.args.self.now.entries c.regrade.new.entries (omega arith) in
    rw (grades, labels, entries)
    (called g.K.Label.ToLabel.label (Lawful g.K.Kind (table_of c.args.net.now)) _ _ (search rules) (search rules) (
      rw (c.as_mut_slice.ensures.value, c.as_mut_slice-2.ensures.value, c.as_mut_slice-3.ensures.value) at c.in-Err.ensures.does,
      rw (c.as_mut_slice.ensures.value, c.as_mut_slice-2.ensures.value, c.as_mut_slice-3.ensures.value) at c.in-Err.ensures.law,
    ))
