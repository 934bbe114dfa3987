use Rattle.std.proofs.Common.{◌<◌, [], ◌∷◌, ◌++◌, map, length, vec_items, sym, ap, ◌∙◌, arith}
use mathlib.Core.List.{map-append}
use Rattle.std.proofs.lemmas.Bool.{eqb-false}
use Rattle.script.proofs.Parting.{ended_some}
use Rattle.script.proofs.words.keep.Goals as goal

pub returns-in_ok-push : goal.returns-in_ok-push
returns-in_ok-push c =
    let items = vec_items c.args.out.now in
    let some : 0 < length c.args.word.now = omega (arith, eqb-false (length c.args.word.now) 0 (sym c.if-not-is_empty.ensures)) in
    ap (map (λ x. x.now)) c.in_ok-push.ensures.items ∙ map-append (λ x. x.now) items (c.args.word ∷ [])
    ∙ ap (λ ws. map (λ x. x.now) items ++ ws) (sym (ended_some c.args.word.now some))
