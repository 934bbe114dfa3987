-- The three kinds, by their members, for statements that name one of them.
use Rattle.kinds.specs.declared.kind.Kind.{Ghosts}
use Rattle.kinds.specs.declared.airtime.Airtime.{Airtime}
use Rattle.kinds.specs.declared.airtime.by.ByAirtime.{ByAirtime}
use Rattle.kinds.specs.declared.chance.Chance.{Chance}
use Rattle.kinds.specs.declared.chance.by.ByChance.{ByChance}
use Rattle.kinds.specs.declared.margin.Margin.{Margin}
use Rattle.kinds.specs.declared.margin.by.ByMargin.{ByMargin}
use Rattle.kinds.specs.Airtimes.{air_start, air_carry, air_at_least, air_rank}
use Rattle.kinds.specs.Chances.{chance_start, chance_carry, chance_at_least, chance_rank}
use Rattle.kinds.specs.Margins.{margin_start, margin_carry, margin_at_least, margin_rank}

abbrev pub by_airtime : Ghosts ByAirtime Airtime Airtime
by_airtime = record { start = air_start; carry = air_carry; at_least = air_at_least; rank = air_rank }

abbrev pub by_chance : Ghosts ByChance Chance Chance
by_chance = record { start = chance_start; carry = chance_carry; at_least = chance_at_least; rank = chance_rank }

abbrev pub by_margin : Ghosts ByMargin Margin Margin
by_margin = record { start = margin_start; carry = margin_carry; at_least = margin_at_least; rank = margin_rank }
