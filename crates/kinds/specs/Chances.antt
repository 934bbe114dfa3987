-- Chance as a kind of grade: parts of 65536 are multiplied and rounded down, and more is better.
use Rattle.std.specs.Prelude.{ℕ, ◌-◌, ◌*◌, ◌/◌, ◌≤◌, min, Bool, if◌then◌else◌, Ok, Err, Result, nat_le, nat_lt}
use Rattle.std.proofs.Math.Nat.{div-le_of_le-mul, min-le_right}
use Rattle.std.proofs.Common.{mul-le-mul}
use Rattle.refusals.specs.declared.kind.KindFault.{KindFault}
use Rattle.refusals.specs.declared.kind.KindFault.TheVariants as fault
use Rattle.kinds.specs.declared.chance.Chance.{Chance}

-- the reading rule: the chance that a number in a list stands for
abbrev pub chance_read : ℕ → Chance
chance_read n = record { parts = min n 65536; most = min-le_right n 65536 }

-- a chance that is made singly
abbrev pub chance_made : ℕ → Result Chance KindFault
chance_made n = if nat_lt 65536 n then Err fault.Chance else Ok (chance_read n)

abbrev pub chance_start : Chance
chance_start = chance_read 65536

pub product_small : (a b : ℕ) → a ≤ 65536 → b ≤ 65536 → a * b / 65536 ≤ 65536
product_small a b p q = div-le_of_le-mul 65536 (mul-le-mul p q)

abbrev pub chance_carry : Chance → Chance → Chance
chance_carry x g = record { parts = x.parts * g.parts / 65536; most = product_small x.parts g.parts x.most g.most }

abbrev pub chance_at_least : Chance → Chance → Bool
chance_at_least x y = nat_le y.parts x.parts

abbrev pub chance_rank : Chance → ℕ
chance_rank x = 65536 - x.parts
