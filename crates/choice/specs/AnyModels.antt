-- What any of the lists holds.
use Rattle.kinds.specs.declared.kind.Kind.{Ghosts}
use Rattle.lists.specs.FirstIns.{first_line}
use Rattle.lists.specs.TwoEndeds.{ends}
use Rattle.lists.specs.SmallLabels.{small_line}
use Rattle.lists.specs.Thresholds.{queues_of}
use Rattle.buckets.specs.Buckets.{ring_of}
use Rattle.choice.specs.AnyOrder.{AnyModel, of_first_in, of_two_ended, of_small_label, of_threshold, of_bucket}
use Rattle.choice.specs.declared.any.AnyList.{AnyList}
use Rattle.choice.specs.declared.any.AnyList.TheVariants as any

abbrev pub any_model : {K L G : Type 0} {k : Ghosts K L G} → AnyList K L G k → AnyModel L G
any_model (any.FirstIn s) = of_first_in (first_line s)
any_model (any.TwoEnded s) = of_two_ended (ends s)
any_model (any.SmallLabel s) = of_small_label (small_line s)
any_model (any.Threshold s) = of_threshold (queues_of s)
any_model (any.Bucket s) = of_bucket (ring_of s)
