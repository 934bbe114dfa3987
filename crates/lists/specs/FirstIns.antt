-- The order of the first-in list (the Bellman–Ford queue): a station enters at the bottom and is picked from the top.
use Rattle.std.specs.Prelude.{◌≡◌, ℕ, List, [], ◌∷◌, ◌++◌, if◌then◌else◌}
use Rattle.lists.specs.Order.{Order}
use Rattle.lists.specs.Runs.{Step, run, entries, picks}
use Rattle.lists.specs.Stations.{holds, top_of, rest_of}
use Rattle.lists.specs.Queues.{line_of}
use Rattle.lists.specs.declared.first_in.FirstIn.{FirstIn}

abbrev pub first_line : FirstIn → List ℕ
first_line s = line_of s.queue

-- on the queue from top to bottom
abbrev pub first_in : {A : Type 0} → Order (List ℕ) A
first_in = record {
  waiting = holds;
  cleared = λ q. [];
  entering = λ q x ls. if holds q x then q else q ++ x ∷ [];
  picking = λ q ls. (top_of q, rest_of q);
}

-- Stations leave in the order in which they entered: those that entered since emptying are those that were picked, and then those that wait, from top to bottom.
abbrev pub InOrder : Type 0 → Type 0
InOrder A = (steps : List (Step A)) → entries first_in [] steps ≡ picks first_in [] steps ++ run first_in [] steps
