-- What the first fault of a kind is, once the places below one have been found without.
use Rattle.std.proofs.Common.{◌≡◌, ℕ, ◌<◌, Bool, true, None, Ok, Err, refl}
use Rattle.net.specs.First.{first_below}
use Rattle.net.specs.Judged.{judged}
use Rattle.net.proofs.Firsts.{NoneBelow, none_is, first-is}
use Rattle.plans.specs.Tests.{at_first}

module _ {E : Type 0} (f : ℕ → E) (p : ℕ → Bool) (n : ℕ) where
  -- place i does
  pub judged-first : {i : ℕ} → i < n → p i ≡ true → NoneBelow p i → Err (f i) ≡ judged (at_first f (first_below p n) None)
  judged-first {i} below fault before = rw (first-is p n i below fault before) refl

  -- all places have been looked at
  pub judged-none : NoneBelow p n → Ok tt ≡ judged (at_first f (first_below p n) None)
  judged-none before = rw (none_is p n before) refl
