-- What two facts about the same option say together.
use Rattle.std.proofs.Common.{Option, Some, None, MatchOption}

pub both-told : {A N M Q : Type 0} {P R : A → Type 0} (o : Option A) → MatchOption o N P → MatchOption o M R
    → (N → M → Q) → ((x : A) → P x → R x → Q) → Q
both-told None n m none some = none n m
both-told (Some x) p r none some = some x p r
