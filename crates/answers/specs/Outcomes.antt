-- What a command comes to: its answer, and what it leaves.
use Rattle.std.specs.Prelude.{◌≡◌, ◌⊎◌, Ok, Err, Result}
use Rattle.answers.specs.declared.answer.Answer.{Answer}
use Rattle.answers.specs.declared.trouble.Trouble.{Trouble}
use Rattle.answers.specs.declared.trouble.Trouble.TheVariants.{Memory}

pub record Outcome (M : Type 0) : Type 0 where
  pub says : Result Answer Trouble
  pub leaves : M

abbrev pub troubled : {M : Type 0} → Trouble → M → Outcome M
troubled e m = record { says = Err e; leaves = m }

abbrev pub answered : {M : Type 0} → Answer → M → Outcome M
answered a m = record { says = Ok a; leaves = m }

-- the answer, and what is left, are those of the outcome
abbrev pub Does : {M : Type 0} → Outcome M → Result Answer Trouble → M → Type 0
Does o r n = (r ≡ o.says) × (n ≡ o.leaves)

-- there was not enough memory, and nothing has changed
abbrev pub NoMemory : {M : Type 0} → M → Result Answer Trouble → M → Type 0
NoMemory m r n = (r ≡ Err Memory) × (n ≡ m)

-- the answer and what is left are those of the outcome, or there was not enough memory
abbrev pub Came : {M : Type 0} → Outcome M → M → Result Answer Trouble → M → Type 0
Came o m r n = NoMemory m r n ⊎ Does o r n
