-- Airtime as a kind of grade: microseconds are added, the sum stops at 4294967295, and less is better.
use Rattle.std.specs.Prelude.{ℕ, ◌+◌, min, Bool, nat_le}
use Rattle.std.proofs.Math.Nat.{min-le_right}
use Rattle.kinds.specs.declared.airtime.Airtime.{Airtime}

-- so many microseconds, or 4294967295 where there are more
abbrev pub airtime_of : ℕ → Airtime
airtime_of n = record { micros = min n 4294967295; fits = min-le_right n 4294967295 }

abbrev pub air_start : Airtime
air_start = airtime_of 0

abbrev pub air_carry : Airtime → Airtime → Airtime
air_carry x g = airtime_of (x.micros + g.micros)

abbrev pub air_at_least : Airtime → Airtime → Bool
air_at_least x y = nat_le x.micros y.micros

abbrev pub air_rank : Airtime → ℕ
air_rank x = x.micros
