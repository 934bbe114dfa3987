-- In which order stations leave the list that was chosen, as a law of its order.
use Rattle.kinds.specs.declared.kind.Kind.{Ghosts}
use Rattle.lists.specs.FirstIns.{InOrder}
use Rattle.lists.specs.TwoEndeds.{BackOnTop}
use Rattle.lists.specs.SmallLabels.{BestOfNew}
use Rattle.lists.specs.Thresholds.{WorseBehind}
use Rattle.buckets.specs.Buckets.{NearestFirst}
use Rattle.choice.specs.declared.make.Choice.{Choice}
use Rattle.choice.specs.declared.make.Choice.TheVariants as choice

abbrev pub Leaving : {K L G : Type 0} → Ghosts K L G → Choice G → Type 0
Leaving {L} k choice.FirstIn = InOrder L
Leaving {L} k choice.TwoEnded = BackOnTop L
Leaving k choice.SmallLabel = BestOfNew k
Leaving k (choice.Threshold step) = WorseBehind k step
Leaving k (choice.Bucket width span) = NearestFirst k.rank
