-- Whether one of the numbers that a range has left passes a test.
use Rattle.std.proofs.Common.{◌≡◌, ℕ, Bool, true, false}
use Rattle.std.specs.List.{list_any}
use Rattle.std.specs.declared.ops.Range.{Range}
use Rattle.net.proofs.Going.{Gives}
use Rattle.book.proofs.Scans.{left_in, left_in-next}

-- the range r gives x, and is q after it
module _ (p : ℕ → Bool) (r : Range ℕ) (x : ℕ) (q : Range ℕ) (gives : Gives r x q) where
  -- x passes
  pub any-found : true ≡ p x → list_any p (left_in r) ≡ true
  any-found h = rw (left_in-next r x q gives, ← h)

  -- it does not: one of the others has to
  pub any-later : false ≡ p x → list_any p (left_in r) ≡ list_any p (left_in q)
  any-later h = rw (left_in-next r x q gives, ← h)
