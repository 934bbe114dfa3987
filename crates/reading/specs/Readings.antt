-- How values are read, by the members of their readings, for statements that name one of them.
use Rattle.std.specs.Prelude.{ℕ}
use Rattle.kinds.specs.declared.airtime.Airtime.{Airtime}
use Rattle.kinds.specs.declared.chance.Chance.{Chance}
use Rattle.kinds.specs.declared.margin.Margin.{Margin}
use Rattle.answers.specs.declared.trouble.Bounds.{Bounds}
use Rattle.reading.specs.declared.read.Readable.{Ghosts}
use Rattle.reading.specs.Spelling.{short_read, long_read, airtime_read, chance_reading, margin_read}

abbrev pub reads_short : Ghosts ℕ
reads_short = record { reads = short_read; bounds = Bounds.Short }

abbrev pub reads_long : Ghosts ℕ
reads_long = record { reads = long_read; bounds = Bounds.Long }

abbrev pub reads_airtime : Ghosts Airtime
reads_airtime = record { reads = airtime_read; bounds = Bounds.Long }

abbrev pub reads_chance : Ghosts Chance
reads_chance = record { reads = chance_reading; bounds = Bounds.Long }

abbrev pub reads_margin : Ghosts Margin
reads_margin = record { reads = margin_read; bounds = Bounds.Decibels }
