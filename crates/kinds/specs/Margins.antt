-- Margin as a kind of grade: a path has the margin of its weakest link, in decibels, and more is better.
use Rattle.std.specs.Prelude.{◌≡◌, ℕ, ◌+◌, ◌-◌, min, Bool, true, ℤ, pos, negsuc, int_le, refl}
use Rattle.std.proofs.Math.Nat.{min-le_right}
use Rattle.std.specs.Int.{int_min}
use Rattle.std.proofs.lemmas.Bool.{cond_both, le-leb}
use Rattle.kinds.specs.declared.margin.Margin.{Margin}

-- so many decibels, cut at -128 and 127
abbrev pub margin_of : ℤ → Margin
margin_of (pos n) = record { decibels = pos (min n 127); least = refl; most = le-leb (min n 127) 127 (min-le_right n 127) }
margin_of (negsuc n) = record { decibels = negsuc (min n 127); least = le-leb (min n 127) 127 (min-le_right n 127); most = refl }

abbrev pub margin_start : Margin
margin_start = margin_of (pos 127)

-- what holds of both holds of the smaller
pub smaller-both : (P : ℤ → Type 0) (x y : ℤ) → P x → P y → P (int_min x y)
smaller-both P x y p q = cond_both _ y x P (λ _. q) (λ _. p)

abbrev pub margin_carry : Margin → Margin → Margin
margin_carry x g =
    record {
      decibels = int_min x.decibels g.decibels;
      least = smaller-both (λ z. int_le (negsuc 127) z ≡ true) x.decibels g.decibels x.least g.least;
      most = smaller-both (λ z. int_le z (pos 127) ≡ true) x.decibels g.decibels x.most g.most;
    }

abbrev pub margin_at_least : Margin → Margin → Bool
margin_at_least x y = int_le y.decibels x.decibels

-- 127 minus the decibels
abbrev pub rank_of_decibels : ℤ → ℕ
rank_of_decibels (pos n) = 127 - n
rank_of_decibels (negsuc n) = 128 + n

abbrev pub margin_rank : Margin → ℕ
margin_rank x = rank_of_decibels x.decibels
