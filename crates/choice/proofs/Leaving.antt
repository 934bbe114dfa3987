-- The law by which stations leave the list that was chosen.
use Rattle.kinds.specs.declared.kind.Kind.{Ghosts}
use Rattle.kinds.specs.Laws.{Laws}
use Rattle.lists.proofs.Leaving.{in-order, back_on_top, best-of-new}
use Rattle.lists.proofs.Behind.{worse_behind}
use Rattle.buckets.proofs.Nearests.{nearest-first}
use Rattle.choice.specs.Leaving.{Leaving}
use Rattle.choice.specs.declared.make.Choice.{Choice}
use Rattle.choice.specs.declared.make.Choice.TheVariants.{FirstIn, TwoEnded, SmallLabel, Threshold, Bucket}

pub leaving : {K L G : Type 0} (k : Ghosts K L G) → Laws k.carry k.at_least k.rank → (choice : Choice G) → Leaving k choice
leaving {L} k laws FirstIn = in-order L
leaving {L} k laws TwoEnded = back_on_top L
leaving k laws SmallLabel = best-of-new k laws
leaving k laws (Threshold step) = worse_behind k laws step
leaving k laws (Bucket width span) = nearest-first k.rank
