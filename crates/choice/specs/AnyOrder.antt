-- The order of any of the lists: that of the list that it is.
use Rattle.std.specs.Prelude.{ℕ, Bool, List, Option}
use Rattle.kinds.specs.declared.kind.Kind.{Ghosts}
use Rattle.lists.specs.Order.{Order}
use Rattle.lists.specs.FirstIns.{first_in}
use Rattle.lists.specs.TwoEndeds.{TwoEnds, two_ended}
use Rattle.lists.specs.SmallLabels.{small_label}
use Rattle.lists.specs.Thresholds.{TwoQueues, threshold}
use Rattle.buckets.specs.Buckets.{BucketRing, buckets}

-- what a list holds, by which list it is
pub data AnyModel (L G : Type 0) : Type 0 where
  of_first_in : List ℕ → AnyModel L G
  of_two_ended : TwoEnds → AnyModel L G
  of_small_label : List ℕ → AnyModel L G
  of_threshold : TwoQueues L G → AnyModel L G
  of_bucket : BucketRing → AnyModel L G

abbrev pub as_pick : {M N : Type 0} → (M → N) → Option ℕ × M → Option ℕ × N
as_pick is p = (p.0, is p.1)

module _ {K L G : Type 0} (k : Ghosts K L G) where
  abbrev pub any_waiting : AnyModel L G → ℕ → Bool
  any_waiting (of_first_in m) x = (first_in {A = L}).waiting m x
  any_waiting (of_two_ended m) x = (two_ended {A = L}).waiting m x
  any_waiting (of_small_label m) x = (small_label k.at_least).waiting m x
  any_waiting (of_threshold m) x = (threshold k).waiting m x
  any_waiting (of_bucket m) x = (buckets k.rank).waiting m x

  abbrev pub any_cleared : AnyModel L G → AnyModel L G
  any_cleared (of_first_in m) = of_first_in ((first_in {A = L}).cleared m)
  any_cleared (of_two_ended m) = of_two_ended ((two_ended {A = L}).cleared m)
  any_cleared (of_small_label m) = of_small_label ((small_label k.at_least).cleared m)
  any_cleared (of_threshold m) = of_threshold ((threshold k).cleared m)
  any_cleared (of_bucket m) = of_bucket ((buckets k.rank).cleared m)

  abbrev pub any_entering : AnyModel L G → ℕ → List L → AnyModel L G
  any_entering (of_first_in m) x ls = of_first_in (first_in.entering m x ls)
  any_entering (of_two_ended m) x ls = of_two_ended (two_ended.entering m x ls)
  any_entering (of_small_label m) x ls = of_small_label ((small_label k.at_least).entering m x ls)
  any_entering (of_threshold m) x ls = of_threshold ((threshold k).entering m x ls)
  any_entering (of_bucket m) x ls = of_bucket ((buckets k.rank).entering m x ls)

  abbrev pub any_picking : AnyModel L G → List L → Option ℕ × AnyModel L G
  any_picking (of_first_in m) ls = as_pick of_first_in (first_in.picking m ls)
  any_picking (of_two_ended m) ls = as_pick of_two_ended (two_ended.picking m ls)
  any_picking (of_small_label m) ls = as_pick of_small_label ((small_label k.at_least).picking m ls)
  any_picking (of_threshold m) ls = as_pick of_threshold ((threshold k).picking m ls)
  any_picking (of_bucket m) ls = as_pick of_bucket ((buckets k.rank).picking m ls)

  abbrev pub any_order : Order (AnyModel L G) L
  any_order = record { waiting = any_waiting; cleared = any_cleared; entering = any_entering; picking = any_picking }
