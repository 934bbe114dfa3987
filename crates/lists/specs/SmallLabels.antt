-- The order of the small-label-first list: a station goes to the top if its label is at least as good as the top station's, else to
-- the bottom. Where the label of either was not handed over, it goes to the bottom.
use Rattle.std.specs.Prelude.{◌≡◌, ℕ, Bool, true, false, List, [], ◌∷◌, ◌++◌, Some, None, Option, map, if◌then◌else◌}
use Rattle.std.specs.List.{slice_get}
use Rattle.kinds.specs.declared.kind.Kind.{Ghosts}
use Rattle.kinds.specs.Order.{AtLeast}
use Rattle.lists.specs.Order.{Order}
use Rattle.lists.specs.Runs.{handing, enters_now, run}
use Rattle.lists.specs.Stations.{holds, top_of, rest_of}
use Rattle.lists.specs.Queues.{line_of}
use Rattle.lists.specs.declared.small_label.SmallLabel.{SmallLabel}

abbrev pub small_line : SmallLabel → List ℕ
small_line s = line_of s.queue

module _ {A : Type 0} (at_least : A → A → Bool) where
  -- both labels are there, and the first is at least as good
  abbrev pub as_good : Option A → Option A → Bool
  as_good None b = false
  as_good (Some a) None = false
  as_good (Some a) (Some b) = at_least a b

  -- whether the station x goes above this queue, with these labels
  abbrev pub goes_first : List A → ℕ → List ℕ → Bool
  goes_first ls x [] = false
  goes_first ls x (y ∷ ys) = as_good (slice_get ls x) (slice_get ls y)

  -- on the queue from top to bottom
  abbrev pub small_label : Order (List ℕ) A
  small_label = record {
    waiting = holds;
    cleared = λ q. [];
    entering = λ q x ls. if holds q x then q else if goes_first ls x q then x ∷ q else q ++ x ∷ [];
    picking = λ q ls. (top_of q, rest_of q);
  }

-- While labels stay, a pick answers a station at least as good as each that came in since the pick before, where both have their labels handed over: `queue` is what waited after that pick, and `stations` entered since.
module _ {K L G : Type 0} (k : Ghosts K L G) where
  abbrev pub BestOfNew : Type 0
  BestOfNew =
      (queue stations : List ℕ) (ls : List L) (x y : ℕ) (a b : L) → holds stations x ≡ true → holds queue x ≡ false
      → ((small_label k.at_least).picking (run (small_label k.at_least) queue (handing ls (map enters_now stations))) ls).0 ≡ Some y
      → slice_get ls x ≡ Some a → slice_get ls y ≡ Some b → AtLeast k b a
