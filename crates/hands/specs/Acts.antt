-- What the commands on what a site holds come to, in any kind.
use Rattle.std.specs.Prelude.{ℕ, ◌-◌, if◌then◌else◌, List, [], ◌∷◌, ◌++◌, length, take, map, replicate, Some, None, Ok, Err, Option, Result, nat_lt, slice_set}
use Rattle.refusals.specs.declared.check.CheckFault.{CheckFault}
use Rattle.refusals.specs.declared.list.ListFault.{ListFault}
use Rattle.refusals.specs.declared.list.ListFault.TheVariants.{Station}
use Rattle.refusals.specs.Tells.{list_tells, kind_tells, check_tells}
use Rattle.kinds.specs.declared.kind.Kind.{Ghosts}
use Rattle.net.specs.Table.{Table}
use Rattle.lists.specs.Meaning.{count_below}
use Rattle.lists.specs.declared.list.Entered.{Entered}
use Rattle.choice.specs.AnyOrder.{AnyModel, any_waiting, any_cleared, any_entering, any_picking}
use Rattle.choice.specs.Choices.{choice_name, chosen}
use Rattle.choice.specs.declared.make.Choice.{Choice}
use Rattle.answers.specs.declared.answer.Answer.{Answer}
use Rattle.answers.specs.declared.answer.Answer.TheVariants as answer
use Rattle.answers.specs.declared.trouble.Trouble.{Trouble}
use Rattle.answers.specs.declared.answer.Label.{Label}
use Rattle.answers.specs.declared.trouble.Trouble.TheVariants.{Usage, NoLabel, NoEntry, NoGrade}
use Rattle.answers.specs.declared.trouble.Usage.{Usage as Shape}
use Rattle.answers.specs.declared.trouble.Usage.TheVariants as usage
use Rattle.answers.specs.Outcomes.{Outcome, troubled, answered}
use Rattle.hands.specs.declared.ask.Entering.{Entering}
use Rattle.hands.specs.declared.ask.Element.{Element}
use Rattle.hands.specs.declared.ask.Poking.{Poking}
use Rattle.hands.specs.declared.ask.Poking.TheVariants as poking
use Rattle.hands.specs.declared.ask.Resizing.{Resizing}
use Rattle.hands.specs.declared.ask.Resizing.TheVariants as resizing
use Rattle.hands.specs.declared.ask.NotAsked.{NotAsked}
use Rattle.hands.specs.declared.ask.NotAsked.TheVariants.{Refused, Troubled}
use Rattle.walks.specs.Walk.{unlabelled}
use Rattle.plans.specs.Faults.{first_fault}
use Rattle.plans.specs.Plan.{plan}
use Rattle.hands.specs.Held.{HeldBy}

-- the labels that are handed over: all, or the first so many
abbrev pub handed_over : {L : Type 0} → Option ℕ → List L → List L
handed_over None ls = ls
handed_over (Some n) ls = take n ls

abbrev pub with_list : {L G : Type 0} → HeldBy L G → AnyModel L G → HeldBy L G
with_list h m = record h { list = m }

abbrev pub with_labels : {L G : Type 0} → HeldBy L G → List L → HeldBy L G
with_labels h ls = record h { plan = plan ls h.plan.entries }

abbrev pub with_entries : {L G : Type 0} → HeldBy L G → List ℕ → HeldBy L G
with_entries h es = record h { plan = plan h.plan.labels es }

abbrev pub with_grades : {L G : Type 0} → HeldBy L G → List G → HeldBy L G
with_grades h gs = record h { grades = gs }

-- `grades`: the list that was read takes the place of the grades
abbrev pub regraded : {L G : Type 0} → HeldBy L G → Result (List G) Trouble → Outcome (HeldBy L G)
regraded h (Err e) = troubled e h
regraded h (Ok gs) = answered (answer.Grades (length gs)) (with_grades h gs)

-- a command that takes no words after its own
abbrev pub bare : {M : Type 0} → Shape → List (List ℕ) → M → Outcome M → Outcome M
bare u (_ ∷ []) m o = o
bare u _ m o = troubled (Usage u) m

-- why a line asks for nothing, as its outcome
abbrev pub not_asked : {M : Type 0} → NotAsked → M → Outcome M
not_asked (Troubled e) m = troubled e m
not_asked (Refused e) m = answered (answer.Refused (kind_tells e)) m

-- `labels`, each as an answer has it, and `entries`
abbrev pub labels_listed : {L G : Type 0} → (L → Label) → HeldBy L G → List (List ℕ) → Outcome (HeldBy L G)
labels_listed shown h ws = bare usage.Labels ws h (answered (answer.Labels (map shown h.plan.labels)) h)

abbrev pub entries_listed : {L G : Type 0} → HeldBy L G → List (List ℕ) → Outcome (HeldBy L G)
entries_listed h ws = bare usage.Entries ws h (answered (answer.Entries h.plan.entries) h)

-- `poke`: one element of a list is overwritten, if the list reaches so far
abbrev pub overwritten : {A M : Type 0} → List A → Element A → (ℕ → Trouble) → (List A → M) → M → Outcome M
overwritten xs e beyond with_these m =
    if nat_lt e.index (length xs) then answered answer.Poked (with_these (slice_set xs e.index e.value)) else troubled (beyond (length xs)) m

abbrev pub poked : {L G : Type 0} → HeldBy L G → Result (Poking L G) Trouble → Outcome (HeldBy L G)
poked h (Err e) = troubled e h
poked h (Ok (poking.Label e)) = overwritten h.plan.labels e NoLabel (with_labels h) h
poked h (Ok (poking.Entry e)) = overwritten h.plan.entries e NoEntry (with_entries h) h
poked h (Ok (poking.Grade e)) = overwritten h.grades e NoGrade (with_grades h) h

-- a list of so many elements: cut, or filled with x
abbrev pub resized : {A : Type 0} → ℕ → A → List A → List A
resized n x xs = take n xs ++ replicate (n - length xs) x

-- what a check found
abbrev pub check_answer : Option CheckFault → Answer
check_answer None = answer.Checked
check_answer (Some f) = answer.Refused (check_tells f)

module _ {K L G : Type 0} (k : Ghosts K L G) where
  -- `check`: the first fault of what is held, from the gateway that was read, or none; the book's own gateway, and whether it was started, are not asked
  abbrev pub checked : Table → HeldBy L G → Result ℕ Trouble → Outcome (HeldBy L G)
  checked t h (Err e) = troubled e h
  checked t h (Ok gateway) = answered (check_answer (first_fault k t gateway h.grades h.plan)) h

  -- `resize`: a list has another length; it is filled with the start label, no entry, or grade 0
  abbrev pub resizes : G → HeldBy L G → Result Resizing Trouble → Outcome (HeldBy L G)
  resizes zero h (Err e) = troubled e h
  resizes zero h (Ok (resizing.Labels n)) = answered answer.Resized (with_labels h (resized n k.start h.plan.labels))
  resizes zero h (Ok (resizing.Entries n)) = answered answer.Resized (with_entries h (resized n unlabelled h.plan.entries))
  resizes zero h (Ok (resizing.Grades n)) = answered answer.Resized (with_grades h (resized n zero h.grades))

  -- `list`: a new list, which is empty; a step that is no grade, and buckets that cannot be had, are refused
  abbrev pub made_list : HeldBy L G → Choice G → Result (AnyModel L G) ListFault → Outcome (HeldBy L G)
  made_list h c (Ok m) = answered (answer.List (choice_name c)) (with_list h m)
  made_list h c (Err e) = answered (answer.Refused (list_tells e)) h

  abbrev pub chose : HeldBy L G → Result (Choice G) NotAsked → Outcome (HeldBy L G)
  chose h (Err e) = not_asked e h
  chose h (Ok c) = made_list h c (chosen k c)

  -- `enter`: refused for a station of 1024 or more
  abbrev pub enters_at : HeldBy L G → ℕ → List L → Outcome (HeldBy L G)
  enters_at h x ls =
      if nat_lt x 1024
      then answered (answer.Entered (if any_waiting k h.list x then Entered.Waiting else Entered.New)) (with_list h (any_entering k h.list x ls))
      else answered (answer.Refused (list_tells Station)) h

  abbrev pub entered : HeldBy L G → Result Entering Trouble → Outcome (HeldBy L G)
  entered h (Err e) = troubled e h
  entered h (Ok a) = enters_at h a.station (handed_over a.handed h.plan.labels)

  -- `pick`
  abbrev pub picks_from : HeldBy L G → Option ℕ × AnyModel L G → Outcome (HeldBy L G)
  picks_from h p = answered (answer.Picked p.0) (with_list h p.1)

  abbrev pub picked : HeldBy L G → Result (Option ℕ) Trouble → Outcome (HeldBy L G)
  picked h (Err e) = troubled e h
  picked h (Ok n) = picks_from h (any_picking k h.list (handed_over n h.plan.labels))

  -- `empty`
  abbrev pub emptied : HeldBy L G → List (List ℕ) → Outcome (HeldBy L G)
  emptied h ws = bare usage.Empty ws h (answered answer.Emptied (with_list h (any_cleared k h.list)))

  -- `waiting`
  abbrev pub waited : HeldBy L G → List (List ℕ) → Outcome (HeldBy L G)
  waited h ws = bare usage.Waiting ws h (answered (answer.Waiting (count_below (any_waiting k h.list) 1024)) h)
