-- What the answer to a look for a link's head says.
use Rattle.std.proofs.Common.{◌≡◌, ℕ, ◌<◌, ◌≤◌, Some, None, arith}
use Rattle.std.proofs.lemmas.Bool.Decides.{nat_tests}
use Rattle.net.specs.Table.{Table, link_count, head_at, head_of}

module _ (t : Table) (l : ℕ) where
  pub head-found : (x : ℕ) → Some x ≡ head_of t l → (l < link_count t) × (x ≡ head_at t l)
  head-found x e = grind (arith, nat_tests)

  pub head-missing : None ≡ head_of t l → link_count t ≤ l
  head-missing e = grind (arith, nat_tests)
