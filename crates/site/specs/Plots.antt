-- Opening a site, and what a site holds.
use Rattle.std.specs.Prelude.{◌≡◌, Some, None, Ok, Err, vec_items, Result}
use Rattle.net.specs.Table.{Table, table}
use Rattle.net.specs.Judged.{net_fault}
use Rattle.site.specs.declared.plot.Site.{Site}
use Rattle.site.specs.declared.plot.acts.NotOpened.{NotOpened}
use Rattle.site.specs.declared.plot.acts.NotOpened.TheVariants.{Refused, Memory}
use Rattle.answers.specs.declared.verb.KindName.TheVariants as name
use Rattle.site.specs.Model.{Model, held_in, new_in}

abbrev pub model_of : Site → Model
model_of s = record { links = table (vec_items s.starts) (vec_items s.heads); held = held_in s.held }

-- a new site over a net is in airtimes
abbrev pub fresh : Table → Model
fresh t = record { links = t; held = new_in name.Airtime t }

-- a site is opened exactly over what is no refusal, unless there is not enough memory
abbrev pub Opens : Table → Result Site NotOpened → Type 0
Opens t (Ok s) = (net_fault t ≡ None) × (model_of s ≡ fresh t)
Opens t (Err (Refused f)) = net_fault t ≡ Some f
Opens t (Err Memory) = net_fault t ≡ None
