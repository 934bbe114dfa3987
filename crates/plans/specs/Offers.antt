-- What a station offers over a link, and which station takes a label.
use Rattle.std.specs.Prelude.{ℕ, Bool, false, not, ◌||◌, List, Some, None, Option}
use Rattle.kinds.specs.declared.kind.Kind.{Ghosts}
use Rattle.paths.specs.Grade.{through}
use Rattle.walks.specs.Walk.{labelled}
use Rattle.plans.specs.Plan.{Plan, label_at, better}

module _ {K L G : Type 0} (k : Ghosts K L G) where
  -- the label of station x carried over link l, or none where the link has no grade
  abbrev pub offered : List G → Plan L → ℕ → ℕ → Option L
  offered grades p x l = through k grades (Some (label_at k p x)) l

  -- station v takes the label a: it has none yet, or a worse one
  abbrev pub welcomes : Plan L → ℕ → L → Bool
  welcomes p v a = not (labelled p.entries v) || better k a (label_at k p v)

  -- station v takes what it is offered
  abbrev pub welcomes_offer : Plan L → ℕ → Option L → Bool
  welcomes_offer p v None = false
  welcomes_offer p v (Some a) = welcomes p v a
