-- The order of the threshold list: two queues and a threshold label, with a step grade. A station enters the bottom of the first queue if
-- its label is at least as good as the threshold or was not handed over, else the bottom of the second; the top of the first is picked.
-- Where the first is empty, the threshold first becomes the best label of the second carried over the step, and all stations there that now pass
-- move over in their order. Where some labels there were not handed over, only the stations without one move, and the threshold stays.
use Rattle.std.specs.Prelude.{◌≡◌, ℕ, Bool, true, false, not, ◌||◌, List, [], ◌∷◌, ◌++◌, Some, None, filter, Option, if◌then◌else◌}
use Rattle.std.specs.Option.{option_map, option_and_then, unwrap_or}
use Rattle.std.specs.List.{slice_get}
use Rattle.kinds.specs.declared.kind.Kind.{Ghosts}
use Rattle.kinds.specs.Order.{Better}
use Rattle.lists.specs.Order.{Order}
use Rattle.lists.specs.Runs.{Move, handing, run}
use Rattle.lists.specs.Queues.{line_of}
use Rattle.lists.specs.Stations.{holds, top_of, rest_of}
use Rattle.lists.specs.declared.threshold.Threshold.{Threshold}

-- the two queues, each from top to bottom
pub record TwoQueues (L G : Type 0) : Type 0 where
  pub first : List ℕ
  pub second : List ℕ
  pub limit : L
  pub step : G

abbrev pub queues_of : {K L G : Type 0} {k : Ghosts K L G} → Threshold K L G k → TwoQueues L G
queues_of s = record { first = line_of s.first; second = line_of s.second; limit = s.limit; step = s.step }

module _ {K L G : Type 0} (k : Ghosts K L G) where
  -- the entry test of a label at a threshold: without a threshold, only stations without a label pass
  abbrev pub passes : Option L → Option L → Bool
  passes limit None = true
  passes None (Some a) = false
  passes (Some limit) (Some a) = k.at_least a limit

  -- the better of a label and the best so far
  abbrev pub better_of : Option L → L → L
  better_of None a = a
  better_of (Some b) a = if k.at_least b a then b else a

  -- the best of a label and those of these stations, or none where one was not handed over
  abbrev pub best_on : List L → Option L → List ℕ → Option L
  best_on ls best [] = best
  best_on ls best (x ∷ xs) = option_and_then (λ a. best_on ls (Some (better_of best a)) xs) (slice_get ls x)

  abbrev pub best_label : List L → List ℕ → Option L
  best_label ls xs = best_on ls None xs

  -- the threshold that a pick sets where the first queue is empty, if it sets one
  abbrev pub loosened : TwoQueues L G → List L → Option L
  loosened m ls = option_map (λ best. k.carry best m.step) (best_label ls m.second)

  -- the second queue parted at a threshold
  abbrev pub parted : TwoQueues L G → List L → Option L → TwoQueues L G
  parted m ls limit = record {
    first = filter (λ x. passes limit (slice_get ls x)) m.second;
    second = filter (λ x. not (passes limit (slice_get ls x))) m.second;
    limit = unwrap_or limit m.limit;
    step = m.step;
  }

  abbrev pub refilled : TwoQueues L G → List L → TwoQueues L G
  refilled m ls = parted m ls (loosened m ls)

  -- the queues from which a pick takes the top of the first
  abbrev pub readied : List ℕ → TwoQueues L G → List L → TwoQueues L G
  readied [] m ls = refilled m ls
  readied (x ∷ xs) m ls = m

  abbrev pub to_first : TwoQueues L G → ℕ → TwoQueues L G
  to_first m x = record { first = m.first ++ x ∷ []; second = m.second; limit = m.limit; step = m.step }

  abbrev pub to_second : TwoQueues L G → ℕ → TwoQueues L G
  to_second m x = record { first = m.first; second = m.second ++ x ∷ []; limit = m.limit; step = m.step }

  abbrev pub in_either : TwoQueues L G → ℕ → Bool
  in_either m x = holds m.first x || holds m.second x

  -- no station waits, and the threshold is the start label
  abbrev pub no_queues : G → TwoQueues L G
  no_queues step = record { first = []; second = []; limit = k.start; step = step }

  abbrev pub top_taken : TwoQueues L G → Option ℕ × TwoQueues L G
  top_taken m = (top_of m.first, record { first = rest_of m.first; second = m.second; limit = m.limit; step = m.step })

  abbrev pub threshold : Order (TwoQueues L G) L
  threshold = record {
    waiting = in_either;
    cleared = λ m. no_queues m.step;
    entering = λ m x ls. if in_either m x then m else if passes (Some m.limit) (slice_get ls x) then to_first m x else to_second m x;
    picking = λ m ls. top_taken (readied m.first m ls);
  }

  -- after these moves since emptying, with the same labels handed over at each
  abbrev pub moved : G → List L → List Move → TwoQueues L G
  moved step ls moves = run threshold (no_queues step) (handing ls moves)

  -- While labels stay, since emptying, a station that is picked is better than each that is left in the second queue, all of which have their labels handed over.
  abbrev pub WorseBehind : G → Type 0
  WorseBehind step =
      (ls : List L) (moves : List Move) (x y : ℕ) (a : L) → (threshold.picking (moved step ls moves) ls).0 ≡ Some x
      → holds (threshold.picking (moved step ls moves) ls).1.second y ≡ true → slice_get ls x ≡ Some a → (b : L) × ((slice_get ls y ≡ Some b) × Better k a b)
