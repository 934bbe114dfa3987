-- The numbers that words spell.
use Rattle.std.specs.Prelude.{ℕ, ◌+◌, ◌-◌, ◌*◌, Bool, true, false, if◌then◌else◌, ◌&&◌, List, [], ◌∷◌, ℤ, pos, neg_ℤ, Some, None, fold, Option, ◌==◌, nat_le}
use Rattle.std.specs.Option.{option_map}

-- '0' to '9'
abbrev pub digit : ℕ → Bool
digit b = nat_le 48 b && nat_le b 57

abbrev pub digits : List ℕ → Bool
digits [] = true
digits (b ∷ bs) = digit b && digits bs

-- at least one digit, and nothing else
abbrev pub spelled : List ℕ → Bool
spelled [] = false
spelled (b ∷ bs) = digits (b ∷ bs)

-- what digits stand for, in tens
abbrev pub value_of : List ℕ → ℕ
value_of bs = fold (λ n b. n * 10 + (b - 48)) 0 bs

-- the number that a word spells, where it is at most so large
abbrev pub number_of : ℕ → List ℕ → Option ℕ
number_of most w = if spelled w && nat_le (value_of w) most then Some (value_of w) else None

-- the decibels that a word spells, from -128 to 127: a number, or one after a minus sign
abbrev pub decibels_of : List ℕ → Option ℤ
decibels_of [] = None
decibels_of (b ∷ bs) = if b == 45 then option_map (λ n. neg_ℤ (pos n)) (number_of 128 bs) else option_map pos (number_of 127 (b ∷ bs))
