-- The values that words spell.
use Rattle.std.specs.Prelude.{ℕ, List, Option}
use Rattle.std.specs.Option.{option_map}
use Rattle.kinds.specs.declared.airtime.Airtime.{Airtime}
use Rattle.kinds.specs.declared.chance.Chance.{Chance}
use Rattle.kinds.specs.declared.margin.Margin.{Margin}
use Rattle.kinds.specs.Airtimes.{airtime_of}
use Rattle.kinds.specs.Chances.{chance_read}
use Rattle.kinds.specs.Margins.{margin_of}
use Rattle.script.specs.Numbers.{number_of, decibels_of}

-- a station, a link, a start or a head
abbrev pub short_read : List ℕ → Option ℕ
short_read w = number_of 65535 w

-- a width or a span
abbrev pub long_read : List ℕ → Option ℕ
long_read w = number_of 4294967295 w

abbrev pub airtime_read : List ℕ → Option Airtime
airtime_read w = option_map airtime_of (number_of 4294967295 w)

-- a number above 65536 reads as 65536
abbrev pub chance_reading : List ℕ → Option Chance
chance_reading w = option_map chance_read (number_of 4294967295 w)

abbrev pub margin_read : List ℕ → Option Margin
margin_read w = option_map margin_of (decibels_of w)
