use Rattle.std.proofs.Common.{◌≡◌, Some, None, Err, Option, rules}
use Rattle.refusals.specs.declared.check.CheckFault.{CheckFault}
use Rattle.refusals.specs.Tells.{check_tells}
use Rattle.net.specs.Judged.{judged}
use Rattle.answers.specs.declared.answer.Answer.TheVariants.{Refused}
use Rattle.hands.specs.Acts.{check_answer}
use Rattle.hands.proofs.holding.Holding.check.Goals as goal

-- a fault that is told is the first
told : (o : Option CheckFault) (f : CheckFault) → Err f ≡ judged o → Refused (check_tells f) ≡ check_answer o
told None f e = absurd (cc)
told (Some g) f e = cc

pub returns-in-Err : goal.returns-in-Err
returns-in-Err g c =
    let e = told _ c.in-Err.fault (rw (c.in-Err.is, c.as_slice.ensures.value, c.as_slice-2.ensures.value, c.as_slice-3.ensures.value) at c.check.ensures.finds) in
    search rules
