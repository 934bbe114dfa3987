-- The table of worked cases. Each row is a case with its outcome, and `Stands` says by the definitions what a row claims.
use Rattle.std.specs.Prelude.{◌≡◌, ℕ, false, List, [], ◌∷◌, ◌++◌, map, reverse, replicate, length, ℤ, pos, negsuc, Some, None, Ok, Err, Option, Result, IsOkAnd, slice_set}
use Rattle.std.specs.Option.{option_map}
use Rattle.refusals.specs.declared.book.BookFault.{BookFault}
use Rattle.refusals.specs.declared.list.ListFault.{ListFault}
use Rattle.refusals.specs.declared.list.ListFault.TheVariants.{Buckets}
use Rattle.refusals.specs.declared.told.Layer.{Layer}
use Rattle.refusals.specs.declared.told.Told.{Told}
use Rattle.refusals.specs.Tells.{told_as, book_tells, check_tells}
use Rattle.kinds.specs.declared.airtime.Airtime.{Airtime}
use Rattle.kinds.specs.Airtimes.{airtime_of, air_start, air_carry}
use Rattle.kinds.specs.Chances.{chance_read, chance_carry}
use Rattle.kinds.specs.Margins.{margin_of, margin_carry}
use Rattle.net.specs.Table.{Table, table, station_count}
use Rattle.kinds.specs.Shipped.{by_airtime}
use Rattle.paths.specs.Simple.{simple_paths}
use Rattle.walks.specs.Walk.{unlabelled, own}
use Rattle.plans.specs.Faults.{first_fault}
use Rattle.plans.specs.Plan.{plan}
use Rattle.runs.specs.Calls.{Memory, Call, Does}
use Rattle.runs.specs.Calls as book
use Rattle.runs.specs.Law.{Event, event, Run}
use Rattle.runs.specs.Ordered.{by_order}
use Rattle.choice.specs.AnyOrder.{AnyModel, any_entering, any_picking, any_order}
use Rattle.choice.specs.Choices.{chosen}
use Rattle.choice.specs.declared.make.Choice.{Choice}
use Rattle.choice.specs.declared.make.Choice.TheVariants as choice

-- a step with a candidate list
pub data Step : Type 0 where
  enter : ℕ → Step
  pick : Step

pub data Case : Type 0 where
  -- this label over this grade gives that label
  airtime : ℕ → ℕ → ℕ → Case
  chance : ℕ → ℕ → ℕ → Case
  margin : ℤ → ℤ → ℤ → Case
  -- the net has so many simple paths
  paths : Table → ℕ → Case
  -- with these airtimes as labels, these steps on a new list pick these stations
  order : Choice Airtime → List ℕ → List Step → List (Option ℕ) → Case
  -- buckets of this width and this span are refused
  no_buckets : ℕ → ℕ → Case
  -- over such a list, from a new book on this net with these airtimes, calls in the order of time get these answers, and lead to these labels and entries
  run : Choice Airtime → Table → List ℕ → List (Event Airtime Airtime) → List ℕ → List ℕ → Case
  -- after such calls with their answers, a call is refused and told so. No row has a refused call in its run, which may be one that was made over other memory
  refused : Choice Airtime → Table → List ℕ → List (Event Airtime Airtime) → Call Airtime → Told → Case
  -- the same, once the entry of a station is overwritten
  overwritten : Choice Airtime → Table → List ℕ → List (Event Airtime Airtime) → ℕ → ℕ → Call Airtime → Told → Case
  -- on this net with these airtimes and this gateway, the first fault of these labels and entries is told so, or they have none
  checked : Table → List ℕ → ℕ → List ℕ → List ℕ → Option Told → Case

-- what the picks among some steps answer
abbrev pub answers : List Airtime → AnyModel Airtime Airtime → List Step → List (Option ℕ)
answers ls m [] = []
answers ls m (enter x ∷ steps) = answers ls (any_entering by_airtime m x ls) steps
answers ls m (pick ∷ steps) = (any_picking by_airtime m ls).0 ∷ answers ls (any_picking by_airtime m ls).1 steps

abbrev pub Answers : List Airtime → Result (AnyModel Airtime Airtime) ListFault → List Step → List (Option ℕ) → Type 0
Answers ls (Ok m) steps picks = answers ls m steps ≡ picks
Answers ls (Err e) steps picks = ⊥

-- what a book by airtime records over any of the lists
abbrev pub AirMemory : Type 0
AirMemory = Memory Airtime Airtime (AnyModel Airtime Airtime)

-- a book that was not started, over the labels and entries of fresh memory
abbrev pub new_memory : Table → List ℕ → AnyModel Airtime Airtime → AirMemory
new_memory t grades m = record {
  started = false;
  gateway = 0;
  grades = map airtime_of grades;
  plan = plan (replicate (station_count t) air_start) (replicate (station_count t) unlabelled);
  list = m;
}

-- over a list that holds this, a run of these calls and answers, in the order of time, ends in such a memory
abbrev pub RunsTo : Table → List ℕ → List (Event Airtime Airtime) → (AirMemory → Type 0) → AnyModel Airtime Airtime → Type 0
RunsTo t grades events Ends m = (u : AirMemory) × Run by_airtime (by_order (any_order by_airtime)) t (new_memory t grades m) (reverse events) u × Ends u

abbrev pub EndsWith : List ℕ → List ℕ → AirMemory → Type 0
EndsWith labels entries u = (map (λ (x : Airtime). x.micros) u.plan.labels ≡ labels) × (u.plan.entries ≡ entries)

-- the same memory, but for the entry of station v
abbrev pub with_entry : AirMemory → ℕ → ℕ → AirMemory
with_entry u v e = record u { plan = plan u.plan.labels (slice_set u.plan.entries v e) }

abbrev pub Refuses : Table → Call Airtime → Told → AirMemory → Type 0
Refuses t a told u = (f : BookFault) × Does by_airtime (by_order (any_order by_airtime)) t u a (book.refused f) u × (book_tells f ≡ told)

abbrev pub Stands : Case → Type 0
Stands (airtime x g y) = (air_carry (airtime_of x) (airtime_of g)).micros ≡ y
Stands (chance x g y) = (chance_carry (chance_read x) (chance_read g)).parts ≡ y
Stands (margin x g y) = (margin_carry (margin_of x) (margin_of g)).decibels ≡ y
Stands (paths t n) = length (simple_paths t) ≡ n
Stands (order c ls steps picks) = Answers (map airtime_of ls) (chosen by_airtime c) steps picks
Stands (no_buckets width span) = chosen by_airtime (choice.Bucket width span) ≡ Err Buckets
Stands (run c t grades events labels entries) = IsOkAnd (chosen by_airtime c) (RunsTo t grades events (EndsWith labels entries))
Stands (refused c t grades events a told) = IsOkAnd (chosen by_airtime c) (RunsTo t grades events (Refuses t a told))
Stands (overwritten c t grades events v e a told) = IsOkAnd (chosen by_airtime c) (RunsTo t grades events (λ u. Refuses t a told (with_entry u v e)))
Stands (checked t grades gateway labels entries told) =
    option_map check_tells (first_fault by_airtime t gateway (map airtime_of grades) (plan (map airtime_of labels) entries)) ≡ told

-- four stations and five links: 0 to 1, 0 to 2, 1 to 3, 2 to 1, 2 to 3
abbrev pub four_roofs : Table
four_roofs = table (0 ∷ 2 ∷ 3 ∷ 5 ∷ 5 ∷ []) (1 ∷ 2 ∷ 3 ∷ 1 ∷ 3 ∷ [])

-- the airtimes of these links
abbrev pub roof_airtimes : List ℕ
roof_airtimes = 4 ∷ 1 ∷ 1 ∷ 2 ∷ 5 ∷ []

-- a start from station 0, and work that leaves none waiting after so many picks
abbrev pub works_out : ℕ → List (Event Airtime Airtime)
works_out picks = event (book.start 0) book.started ∷ event (book.work 10) (book.worked picks 0) ∷ []

-- one station and no link
abbrev pub one_roof : Table
one_roof = table (0 ∷ 0 ∷ []) []

-- three stations and two links, from 1 to 2 and back
abbrev pub roundabout : Table
roundabout = table (0 ∷ 0 ∷ 1 ∷ 2 ∷ []) (2 ∷ 1 ∷ [])

-- the labels of four stations
abbrev pub four_labels : List ℕ
four_labels = 0 ∷ 5 ∷ 3 ∷ 9 ∷ []

-- four stations enter, and all are picked
abbrev pub all_four : List Step
all_four = enter 1 ∷ enter 2 ∷ enter 3 ∷ enter 0 ∷ pick ∷ pick ∷ pick ∷ pick ∷ pick ∷ []

-- station 4, whose label is not handed over, enters third of four, and all are picked
abbrev pub one_unknown : List Step
one_unknown = enter 1 ∷ enter 3 ∷ enter 4 ∷ enter 2 ∷ pick ∷ pick ∷ pick ∷ pick ∷ pick ∷ []

abbrev pub worked : List Case
worked =
    airtime 4294967290 5 4294967295
    ∷ airtime 4294967290 6 4294967295
    ∷ chance 32768 32768 16384
    ∷ chance 1 65535 0
    ∷ margin (negsuc 2) (pos 5) (negsuc 2)
    ∷ margin (pos 127) (negsuc 127) (negsuc 127)
    ∷ paths four_roofs 10
    ∷ order choice.FirstIn four_labels all_four (Some 1 ∷ Some 2 ∷ Some 3 ∷ Some 0 ∷ None ∷ [])
    ∷ order choice.TwoEnded four_labels (enter 1 ∷ enter 2 ∷ pick ∷ enter 3 ∷ enter 1 ∷ pick ∷ pick ∷ pick ∷ []) (Some 1 ∷ Some 1 ∷ Some 2 ∷ Some 3 ∷ [])
    ∷ order choice.SmallLabel four_labels all_four (Some 0 ∷ Some 2 ∷ Some 1 ∷ Some 3 ∷ None ∷ [])
    ∷ order choice.SmallLabel four_labels one_unknown (Some 2 ∷ Some 1 ∷ Some 3 ∷ Some 4 ∷ None ∷ [])
    ∷ order (choice.Threshold (airtime_of 2)) four_labels all_four (Some 0 ∷ Some 1 ∷ Some 2 ∷ Some 3 ∷ None ∷ [])
    ∷ order (choice.Threshold (airtime_of 2)) four_labels one_unknown (Some 4 ∷ Some 1 ∷ Some 2 ∷ Some 3 ∷ None ∷ [])
    ∷ order (choice.Bucket 2 5) four_labels all_four (Some 0 ∷ Some 2 ∷ Some 3 ∷ Some 1 ∷ None ∷ [])
    ∷ order (choice.Bucket 2 5) four_labels one_unknown (Some 4 ∷ Some 3 ∷ Some 2 ∷ Some 1 ∷ None ∷ [])
    ∷ no_buckets 2 128
    ∷ run choice.FirstIn four_roofs roof_airtimes (works_out 6) (0 ∷ 3 ∷ 1 ∷ 4 ∷ []) (65534 ∷ 3 ∷ 1 ∷ 2 ∷ [])
    ∷ run choice.TwoEnded four_roofs roof_airtimes (works_out 5) (0 ∷ 3 ∷ 1 ∷ 4 ∷ []) (65534 ∷ 3 ∷ 1 ∷ 2 ∷ [])
    ∷ run choice.SmallLabel four_roofs roof_airtimes (works_out 4) (0 ∷ 3 ∷ 1 ∷ 4 ∷ []) (65534 ∷ 3 ∷ 1 ∷ 2 ∷ [])
    ∷ run (choice.Threshold (airtime_of 2)) four_roofs roof_airtimes (works_out 4) (0 ∷ 3 ∷ 1 ∷ 4 ∷ []) (65534 ∷ 3 ∷ 1 ∷ 2 ∷ [])
    ∷ run (choice.Bucket 2 5) four_roofs roof_airtimes (works_out 5) (0 ∷ 3 ∷ 1 ∷ 4 ∷ []) (65534 ∷ 3 ∷ 1 ∷ 2 ∷ [])
    ∷ run choice.FirstIn four_roofs roof_airtimes
    (works_out 6 ++ event (book.regrade 3 (airtime_of 9)) (book.regraded 2 2) ∷ event (book.work 10) (book.worked 4 0) ∷ [])
    (0 ∷ 4 ∷ 1 ∷ 5 ∷ []) (65534 ∷ 0 ∷ 1 ∷ 2 ∷ [])
    ∷ run choice.FirstIn one_roof [] (event (book.start 0) book.started ∷ event (book.work 0) (book.worked 0 1) ∷ []) (0 ∷ []) (65534 ∷ [])
    ∷ run choice.FirstIn four_roofs roof_airtimes (works_out 6 ++ event (book.route 3 10) (book.routed (1 ∷ 3 ∷ 2 ∷ [])) ∷ [])
    (0 ∷ 3 ∷ 1 ∷ 4 ∷ []) (65534 ∷ 3 ∷ 1 ∷ 2 ∷ [])
    ∷ refused choice.FirstIn four_roofs roof_airtimes (works_out 6) (book.route 3 2) (told_as 12 3 Layer.Book)
    ∷ overwritten choice.FirstIn four_roofs roof_airtimes (works_out 6) 1 own (book.route 3 10) (told_as 11 0 Layer.Book)
    ∷ checked four_roofs roof_airtimes 0 (0 ∷ 3 ∷ 1 ∷ 4 ∷ []) (65534 ∷ 3 ∷ 1 ∷ 2 ∷ []) None
    ∷ checked four_roofs roof_airtimes 4 (0 ∷ 3 ∷ 1 ∷ 4 ∷ []) (65534 ∷ 3 ∷ 1 ∷ 2 ∷ []) (Some (told_as 7 0 Layer.Check))
    ∷ checked four_roofs roof_airtimes 0 (0 ∷ 3 ∷ 1 ∷ 4 ∷ []) (65535 ∷ 3 ∷ 1 ∷ 2 ∷ []) (Some (told_as 16 0 Layer.Check))
    ∷ checked four_roofs roof_airtimes 0 (0 ∷ 3 ∷ 1 ∷ 5 ∷ []) (65534 ∷ 3 ∷ 1 ∷ 2 ∷ []) (Some (told_as 17 3 Layer.Check))
    ∷ checked roundabout (0 ∷ 0 ∷ []) 0 (0 ∷ 5 ∷ 5 ∷ []) (65534 ∷ 1 ∷ 0 ∷ []) (Some (told_as 18 1 Layer.Check))
    ∷ checked four_roofs roof_airtimes 0 (0 ∷ 4 ∷ 1 ∷ 5 ∷ []) (65534 ∷ 0 ∷ 1 ∷ 2 ∷ []) (Some (told_as 19 3 Layer.Check))
    ∷ []

abbrev pub AllStand : List Case → Type 0
AllStand [] = Unit {0}
AllStand (c ∷ cs) = Stands c × AllStand cs
