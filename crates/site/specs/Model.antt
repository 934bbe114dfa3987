-- A site: its table of links, and what it holds beside it, in the kind that was chosen.
use Rattle.std.specs.Prelude.{pos}
use Rattle.kinds.specs.declared.airtime.Airtime.{Airtime}
use Rattle.kinds.specs.declared.chance.Chance.{Chance}
use Rattle.kinds.specs.declared.margin.Margin.{Margin}
use Rattle.kinds.specs.Airtimes.{airtime_of}
use Rattle.kinds.specs.Chances.{chance_read}
use Rattle.kinds.specs.Margins.{margin_of}
use Rattle.kinds.specs.Shipped.{by_airtime, by_chance, by_margin}
use Rattle.net.specs.Table.{Table, station_count, link_count}
use Rattle.answers.specs.declared.verb.KindName.{KindName}
use Rattle.answers.specs.declared.verb.KindName.TheVariants as name
use Rattle.hands.specs.Held.{HeldBy, held_by, new_held}
use Rattle.site.specs.declared.held.AnyHolding.{AnyHolding}
use Rattle.site.specs.declared.held.AnyHolding.TheVariants.{ByAirtime, ByChance, ByMargin}

pub data AnyHeld : Type 0 where
  airtimes : HeldBy Airtime Airtime → AnyHeld
  chances : HeldBy Chance Chance → AnyHeld
  margins : HeldBy Margin Margin → AnyHeld

pub record Model : Type 0 where
  pub links : Table
  pub held : AnyHeld

abbrev pub held_in : AnyHolding → AnyHeld
held_in (ByAirtime h) = airtimes (held_by h)
held_in (ByChance h) = chances (held_by h)
held_in (ByMargin h) = margins (held_by h)

-- what is held beside a new net: a book that is not started, and every link has grade 0
abbrev pub new_in : KindName → Table → AnyHeld
new_in name.Airtime t = airtimes (new_held by_airtime (airtime_of 0) (station_count t) (link_count t))
new_in name.Chance t = chances (new_held by_chance (chance_read 0) (station_count t) (link_count t))
new_in name.Margin t = margins (new_held by_margin (margin_of (pos 0)) (station_count t) (link_count t))
