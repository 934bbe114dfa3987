-- Products of chances, rounded down, and their order.
use Rattle.std.specs.Prelude.{ℕ, ◌*◌, ◌/◌, ◌≤◌}
use Rattle.std.proofs.Math.Nat.{div-le_of_le-mul}
use Rattle.std.proofs.Common.{mul-le-mul_right, mul-le-mul_left, arith}

pub product-keeps : (x y g : ℕ) → y ≤ x → y * g / 65536 ≤ x * g / 65536
product-keeps x y g h = let p : y * g ≤ x * g = mul-le-mul_right g h in omega arith

pub product-worsens : (x g : ℕ) → g ≤ 65536 → x * g / 65536 ≤ x
product-worsens x g h = div-le_of_le-mul 65536 (omega (arith, mul-le-mul_left x h))
