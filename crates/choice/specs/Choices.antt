-- The list that is made by choice.
use Rattle.std.specs.Prelude.{◌≡◌, ℕ, if◌then◌else◌, [], Ok, Err, Result}
use Rattle.refusals.specs.declared.list.ListFault.{ListFault}
use Rattle.refusals.specs.declared.list.ListFault.TheVariants.{Buckets}
use Rattle.kinds.specs.declared.kind.Kind.{Ghosts}
use Rattle.lists.specs.TwoEndeds.{no_ends}
use Rattle.lists.specs.Thresholds.{no_queues}
use Rattle.buckets.specs.Buckets.{no_rows, bucket_count, buckets_refused}
use Rattle.choice.specs.AnyOrder.{any_cleared, AnyModel, of_first_in, of_two_ended, of_small_label, of_threshold, of_bucket}
use Rattle.choice.specs.declared.list_name.ListName.{ListName}
use Rattle.choice.specs.declared.list_name.ListName.TheVariants as name
use Rattle.choice.specs.declared.make.Choice.{Choice}
use Rattle.choice.specs.declared.make.Choice.TheVariants as choice

abbrev pub choice_name : {G : Type 0} → Choice G → ListName
choice_name choice.FirstIn = ListName.FirstIn
choice_name choice.TwoEnded = ListName.TwoEnded
choice_name choice.SmallLabel = ListName.SmallLabel
choice_name (choice.Threshold step) = ListName.Threshold
choice_name (choice.Bucket width span) = ListName.Bucket

-- the list of a name, with what its making takes of these
abbrev pub choice_of : {G : Type 0} → ListName → G → ℕ → ℕ → Choice G
choice_of name.FirstIn step width span = choice.FirstIn
choice_of name.TwoEnded step width span = choice.TwoEnded
choice_of name.SmallLabel step width span = choice.SmallLabel
choice_of name.Threshold step width span = choice.Threshold step
choice_of name.Bucket step width span = choice.Bucket width span

-- the model of the new list
abbrev pub chosen : {K L G : Type 0} → Ghosts K L G → Choice G → Result (AnyModel L G) ListFault
chosen k choice.FirstIn = Ok (of_first_in [])
chosen k choice.TwoEnded = Ok (of_two_ended no_ends)
chosen k choice.SmallLabel = Ok (of_small_label [])
chosen k (choice.Threshold step) = Ok (of_threshold (no_queues k step))
chosen k (choice.Bucket width span) = if buckets_refused width span then Err Buckets else Ok (of_bucket (no_rows width (bucket_count width span)))

-- a new list is as after emptying
abbrev pub Fresh : {K L G : Type 0} → Ghosts K L G → AnyModel L G → Type 0
Fresh k m = any_cleared k m ≡ m
