-- Tests one after the other, and the first refusal that they meet.
use Rattle.std.specs.Prelude.{ℕ, Bool, if◌then◌else◌, Some, None, Option}

module _ {E : Type 0} where
  -- a test that refuses where it fails, and the tests after it
  abbrev pub unless : Bool → E → Option E → Option E
  unless passes f rest = if passes then rest else Some f

  -- a fault at a place, if one was found, and the tests after it
  abbrev pub at_first : (ℕ → E) → Option ℕ → Option E → Option E
  at_first f None rest = rest
  at_first f (Some place) rest = Some (f place)
