-- What a station offers over a link that has a grade.
use Rattle.std.proofs.Common.{◌≡◌, ℕ, ◌<◌, List, length, get_or, Some, refl}
use Rattle.std.proofs.lemmas.Option.{slice_get_read}
use Rattle.kinds.specs.declared.kind.Kind.{Ghosts as Kind}
use Rattle.plans.specs.Offers.{offered}
use Rattle.plans.specs.Plan.{Plan, label_at}

-- a is the label of station x and g the grade of link l: it offers a carried over g
pub offered-is : {K L G : Type 0} (k : Kind K L G) (grades : List G) (p : Plan L) (x l : ℕ) (a : L) (g : G) (new : L) → a ≡ label_at k p x
    → l < length grades → g ≡ get_or grades l g → new ≡ k.carry a g → offered k grades p x l ≡ Some new
offered-is k grades p x l a g new label below grade made = rw (slice_get_read grades (length grades) l g refl below grade, made, label) refl
