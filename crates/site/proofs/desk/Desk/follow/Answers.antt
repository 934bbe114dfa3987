use Rattle.std.proofs.Common.{◌≡◌, false, Err, sym, ◌∙◌, refl, rules}
use Rattle.answers.specs.Verbs.{verb_of}
use Rattle.site.specs.Commands.{comment, as_line}
use Rattle.site.specs.Desks.{desk_of}
use Rattle.site.proofs.Commanded.{obeys-unknown, obeys-command}
use Rattle.site.proofs.desk.Desk.follow.Goals as goal

pub returns-in_err-try_from-in-Some : goal.returns-in_err-try_from-in-Some
returns-in_err-try_from-in-Some c =
    let w = c.in-Some.word.now in
    let h : comment w.now ≡ false = search rules in
    let r : c.from_residual.result ≡ Err c.in_err-try_from-in-Some.field-0.0 = search rules in
    rw r (obeys-unknown (desk_of c.args.self.now) c.args.words.now w (verb_of w.now) c.in_err-try_from-in-Some.field-0.0 c.in-Some.ensures.value h refl (sym c.try_from.ensures ∙ c.in_err-try_from-in-Some.was))

pub returns-in_ok-try_from-in-Some : goal.returns-in_ok-try_from-in-Some
returns-in_ok-try_from-in-Some c =
    let w = c.in-Some.word.now in
    let h : comment w.now ≡ false = search rules in
    let r : c.map.result ≡ as_line c.command.result = search rules in
    rw r (obeys-command (desk_of c.args.self.now) c.args.words.now w (verb_of w.now) c.in_ok-try_from-in-Some.field-0 c.command.result (desk_of c.command.new.self)
    c.in-Some.ensures.value h refl (sym c.try_from.ensures ∙ c.in_ok-try_from-in-Some.was) c.command.ensures)
