-- The site that a desk works on.
use Rattle.std.specs.Option.{option_map}
use Rattle.std.specs.Prelude.{Option}
use Rattle.site.specs.declared.desk.Desk.{Desk}
use Rattle.site.specs.Model.{Model}
use Rattle.site.specs.Plots.{model_of}

abbrev pub desk_of : Desk → Option Model
desk_of d = option_map model_of d.site
