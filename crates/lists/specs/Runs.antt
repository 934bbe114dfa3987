-- Runs of a list by its order: step after step, the stations that came in on the way, and those that were picked.
use Rattle.std.specs.Prelude.{ℕ, Bool, false, ◌||◌, List, [], ◌∷◌, map, Some, None, Option, ◌==◌, if◌then◌else◌}
use Rattle.lists.specs.Order.{Order}

-- a station enters, or a pick is made, with these labels handed over
pub data Step (A : Type 0) : Type 0 where
  enter : ℕ → List A → Step A
  pick : List A → Step A

-- whether the station x enters on the way
abbrev pub enters : {A : Type 0} → ℕ → List (Step A) → Bool
enters x [] = false
enters x (enter y ls ∷ steps) = x == y || enters x steps
enters x (pick ls ∷ steps) = enters x steps

-- a step without its labels
pub data Move : Type 0 where
  enters_now : ℕ → Move
  picks_now : Move

abbrev pub with_labels : {A : Type 0} → List A → Move → Step A
with_labels ls (enters_now x) = enter x ls
with_labels ls picks_now = pick ls

-- steps at all of which the same labels are handed over
abbrev pub handing : {A : Type 0} → List A → List Move → List (Step A)
handing ls moves = map (with_labels ls) moves

-- the answer of a pick, before those of later ones
abbrev pub answered : Option ℕ → List ℕ → List ℕ
answered None xs = xs
answered (Some x) xs = x ∷ xs

module _ {M A : Type 0} (o : Order M A) where
  abbrev pub after : M → Step A → M
  after m (enter x ls) = o.entering m x ls
  after m (pick ls) = (o.picking m ls).1

  -- the model after a run of steps
  abbrev pub run : M → List (Step A) → M
  run m [] = m
  run m (step ∷ steps) = run (after m step) steps

  -- the stations that entered and did not wait, one after the other
  abbrev pub entries : M → List (Step A) → List ℕ
  entries m [] = []
  entries m (enter x ls ∷ steps) =
      if o.waiting m x then entries (o.entering m x ls) steps else x ∷ entries (o.entering m x ls) steps
  entries m (pick ls ∷ steps) = entries (o.picking m ls).1 steps

  -- the stations that were picked, one after the other
  abbrev pub picks : M → List (Step A) → List ℕ
  picks m [] = []
  picks m (enter x ls ∷ steps) = picks (o.entering m x ls) steps
  picks m (pick ls ∷ steps) = answered (o.picking m ls).0 (picks (o.picking m ls).1 steps)
