use Rattle.std.proofs.Common.{◌≡◌, ℕ, List, length, take, replicate, Ok, ap, ◌∙◌, inr, arith, rules}
use Rattle.std.proofs.lemmas.List.{length-replicate, with_items_is}
use Rattle.answers.specs.declared.answer.Answer.TheVariants.{Route}
use Rattle.net.specs.View.{table_of}
use Rattle.hands.specs.Calls.{Lawful}
use Rattle.hands.proofs.Lifted.{called}
use Rattle.hands.proofs.holding.Holding.route.Goals as goal

-- as many places as were asked for
lent : (places items : List ℕ) (n : ℕ) → places ≡ items → items ≡ replicate n 0 → length places ≡ n
lent places items n e f = ap length (e ∙ f) ∙ length-replicate n 0

pub returns-in-Ok : goal.returns-in-Ok
returns-in-Ok g c =
    let long = lent c.as_mut_slice.result.now c.in_ok-links.links.items c.in_ok-station.field-0.places c.as_mut_slice.ensures.value c.in_ok-links.ensures in
    let told : c.from-in-Ok.result ≡ take c.in-Ok.count c.route.new.places =
    c.from-in-Ok.ensures ∙ c.truncate.ensures.items ∙ ap (take c.from.result) (with_items_is c.in_ok-links.links c.route.new.places (omega arith))
    ∙ ap (λ n. take n c.route.new.places) c.from.ensures in
    inr (called g.K.Label.ToLabel.label (Lawful g.K.Kind (table_of c.args.net.now)) _ _ (search rules) (ap (λ links. Ok (Route links)) told) (
      rw (long, c.as_slice.ensures.value, c.as_slice-2.ensures.value, c.as_slice-3.ensures.value) at c.in-Ok.ensures.does,
      rw (long, c.as_slice.ensures.value, c.as_slice-2.ensures.value, c.as_slice-3.ensures.value) at c.in-Ok.ensures.law,
    ))

pub returns-in-Err : goal.returns-in-Err
returns-in-Err g c =
    let long = lent c.as_mut_slice.result.now c.in_ok-links.links.items c.in_ok-station.field-0.places c.as_mut_slice.ensures.value c.in_ok-links.ensures in
    inr (called g.K.Label.ToLabel.label (Lawful g.K.Kind (table_of c.args.net.now)) _ _ (search rules) (search rules) (
      rw (long, c.as_slice.ensures.value, c.as_slice-2.ensures.value, c.as_slice-3.ensures.value) at c.in-Err.ensures.does,
      rw (long, c.as_slice.ensures.value, c.as_slice-2.ensures.value, c.as_slice-3.ensures.value) at c.in-Err.ensures.law,
    ))
