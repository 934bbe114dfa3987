-- The first number that passes a test, from a place on, and round.
use Rattle.std.specs.Option.{option_or}
use Rattle.std.specs.Prelude.{ℕ, zero, suc, ◌+◌, ◌-◌, Bool, Some, None, Option, if◌then◌else◌}

-- the first of n numbers from a on that passes
abbrev pub first_from : (ℕ → Bool) → ℕ → ℕ → Option ℕ
first_from f a zero = None
first_from f a (suc n) = if f a then Some a else first_from f (a + 1) n

-- up from `at`, then round from 0, among the numbers below n
unfoldable pub next_from : (ℕ → Bool) → ℕ → ℕ → Option ℕ
next_from f n at = option_or (first_from f at (n - at)) (first_from f 0 n)
