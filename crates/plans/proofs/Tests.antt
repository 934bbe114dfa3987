-- Tests one after the other refuse nothing exactly where each passes.
use Rattle.std.proofs.Common.{◌≡◌, ℕ, Bool, true, false, Some, None, Option, refl}
use Rattle.net.specs.First.{first_below}
use Rattle.net.proofs.Firsts.{NoneBelow, none-says, none_is}
use Rattle.plans.specs.Tests.{unless, at_first}

module _ {E : Type 0} where
  pub unless_none : (passes : Bool) (f : E) (rest : Option E) → unless passes f rest ≡ None → (passes ≡ true) × (rest ≡ None)
  unless_none true f rest e = (refl, e)
  unless_none false f rest e = absurd cc

  pub none_unless : (passes : Bool) (f : E) (rest : Option E) → passes ≡ true → rest ≡ None → unless passes f rest ≡ None
  none_unless true f rest h e = e
  none_unless false f rest h e = absurd cc

  found_none : (f : ℕ → E) (o : Option ℕ) (rest : Option E) → at_first f o rest ≡ None → (o ≡ None) × (rest ≡ None)
  found_none f None rest e = (refl, e)
  found_none f (Some place) rest e = absurd cc

  pub first_none : (f : ℕ → E) (fault : ℕ → Bool) (n : ℕ) (rest : Option E) → at_first f (first_below fault n) rest ≡ None
      → NoneBelow fault n × (rest ≡ None)
  first_none f fault n rest e = let r = found_none f (first_below fault n) rest e in (none-says fault n r.0, r.1)

  pub none_first : (f : ℕ → E) (fault : ℕ → Bool) (n : ℕ) (rest : Option E) → NoneBelow fault n
      → rest ≡ None → at_first f (first_below fault n) rest ≡ None
  none_first f fault n rest h e = rw (none_is fault n h) e
