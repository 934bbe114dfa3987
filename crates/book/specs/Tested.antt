-- What a test of a call answers.
use Rattle.std.specs.Prelude.{◌≡◌, Bool, true, false, Result, MatchResult}
use Rattle.refusals.specs.declared.book.BookFault.{BookFault}

-- nothing where the test passes, and else this fault
abbrev pub Tested : Result (Unit {0}) BookFault → BookFault → Bool → Type 0
Tested r f passes = MatchResult r (λ _. passes ≡ true) (λ e. (e ≡ f) × (passes ≡ false))
