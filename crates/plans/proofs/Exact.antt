-- The theorem of the check: it finds no fault exactly in trees of best paths.
use Rattle.std.proofs.Common.{◌≡◌, ℕ, List, None, ◌↔◌}
use Rattle.kinds.specs.declared.kind.Kind.{Ghosts as Kind}
use Rattle.kinds.specs.Laws.{Laws}
use Rattle.net.specs.Table.{Table, ForwardStar}
use Rattle.plans.specs.Plan.{Plan}
use Rattle.plans.specs.Best.{BestTree}
use Rattle.plans.specs.Faults.{first_fault}
use Rattle.plans.proofs.Leading.{sound_tree}
use Rattle.plans.proofs.Paths.{best_sound}
use Rattle.plans.proofs.Told.{told_sound, sound_told}

module _ {K L G : Type 0} (k : Kind K L G) (laws : Laws k.carry k.at_least k.rank) {t : Table} (star : ForwardStar t)
    (gateway : ℕ) (grades : List G) (p : Plan L) where
  -- whatever gateway, grades, labels and entries are
  pub exact : first_fault k t gateway grades p ≡ None ↔ BestTree k t gateway grades p
  exact = (
    λ none. sound_tree k laws star (told_sound k laws t star.light gateway grades p none),
    λ tree. sound_told k laws t star.light gateway grades p (best_sound k star tree),
  )
