-- What becomes of a plan when a station is offered a label, and what is asked of the candidate list.
use Rattle.std.specs.Prelude.{ℕ, if◌then◌else◌, List, [], ◌∷◌}
use Rattle.kinds.specs.declared.kind.Kind.{Ghosts}
use Rattle.plans.specs.Offers.{welcomes}
use Rattle.plans.specs.Plan.{Plan, written}
use Rattle.runs.specs.Acts.{Act, enters}

module _ {K L G : Type 0} (k : Ghosts K L G) where
  -- station v was offered the label a by link l
  abbrev pub after_offer : Plan L → ℕ → L → ℕ → Plan L
  after_offer p v a l = if welcomes k p v a then written p v l a else p

  -- it enters once its label is written
  abbrev pub offer_acts : Plan L → ℕ → L → ℕ → List (Act L)
  offer_acts p v a l = if welcomes k p v a then enters v (written p v l a).labels ∷ [] else []
