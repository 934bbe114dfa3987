-- Any of the lists is lawful: each case by the laws of the list that it is.
use Rattle.std.proofs.Common.{◌≡◌, ℕ, ◌<◌, true, false, ◌||◌, List, ◌==◌}
use Rattle.kinds.specs.declared.kind.Kind.{Ghosts}
use Rattle.kinds.specs.Laws.{Laws}
use Rattle.lists.specs.Order.{OrderLaws, Takes}
use Rattle.lists.specs.Stations.{proper}
use Rattle.lists.specs.Lines.{first-laws, two-laws, small-laws}
use Rattle.lists.specs.ThresholdsLemmas.{Sound, threshold-laws}
use Rattle.buckets.specs.Laws.{SoundRing, ring-sound, bucket-laws}
use Rattle.choice.specs.AnyOrder.{AnyModel, of_first_in, of_two_ended, of_small_label, of_threshold, of_bucket, any_waiting, any_cleared, any_entering, any_picking, any_order}
use Rattle.choice.specs.AnyModels.{any_model}
use Rattle.choice.specs.declared.any.AnyList.{AnyList}
use Rattle.choice.specs.declared.any.AnyList.TheVariants as any

module _ {K L G : Type 0} (k : Ghosts K L G) (laws : Laws k.carry k.at_least k.rank) where
  -- what holds of the model of every list
  abbrev pub AnySound : AnyModel L G → Type 0
  AnySound (of_first_in m) = proper m ≡ true
  AnySound (of_two_ended m) = proper m.line ≡ true
  AnySound (of_small_label m) = proper m ≡ true
  AnySound (of_threshold m) = Sound k m
  AnySound (of_bucket m) = SoundRing m

  pub sound : (s : AnyList K L G k) → AnySound (any_model s)
  sound (any.FirstIn s) = s.queue.once
  sound (any.TwoEnded s) = s.queue.once
  sound (any.SmallLabel s) = s.queue.once
  sound (any.Threshold s) = record { first-once = s.first.once; second-once = s.second.once; separate = s.apart }
  sound (any.Bucket s) = ring-sound s

  below : (m : AnyModel L G) (x : ℕ) → AnySound m → any_waiting k m x ≡ true → x < 1024
  below (of_first_in m) = (first-laws {A = L}).below m
  below (of_two_ended m) = (two-laws {A = L}).below m
  below (of_small_label m) = (small-laws k.at_least).below m
  below (of_threshold m) = (threshold-laws k laws).below m
  below (of_bucket m) = (bucket-laws k.rank).below m

  clears : (m : AnyModel L G) (x : ℕ) → any_waiting k (any_cleared k m) x ≡ false
  clears (of_first_in m) = (first-laws {A = L}).clears m
  clears (of_two_ended m) = (two-laws {A = L}).clears m
  clears (of_small_label m) = (small-laws k.at_least).clears m
  clears (of_threshold m) = (threshold-laws k laws).clears m
  clears (of_bucket m) = (bucket-laws k.rank).clears m

  adds : (m : AnyModel L G) (x : ℕ) (ls : List L) (y : ℕ) → AnySound m → x < 1024 → any_waiting k (any_entering k m x ls) y ≡ (y == x || any_waiting k m y)
  adds (of_first_in m) = first-laws.adds m
  adds (of_two_ended m) = two-laws.adds m
  adds (of_small_label m) = (small-laws k.at_least).adds m
  adds (of_threshold m) = (threshold-laws k laws).adds m
  adds (of_bucket m) = (bucket-laws k.rank).adds m

  takes : (m : AnyModel L G) (ls : List L) → AnySound m → Takes (any_order k) m (any_picking k m ls).1 (any_picking k m ls).0
  takes (of_first_in m) = first-laws.takes m
  takes (of_two_ended m) = two-laws.takes m
  takes (of_small_label m) = (small-laws k.at_least).takes m
  takes (of_threshold m) = (threshold-laws k laws).takes m
  takes (of_bucket m) = (bucket-laws k.rank).takes m

  pub any_laws : OrderLaws (any_order k) AnySound
  any_laws = record { below = below; clears = clears; adds = adds; takes = takes }
