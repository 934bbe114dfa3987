-- The memory of a book, from what is handed over at a call, and what each call answers.
use Rattle.std.specs.Prelude.{ℕ, List, take, Some, None, Ok, Err, Option, Result}
use Rattle.refusals.specs.declared.book.BookFault.{BookFault}
use Rattle.plans.specs.Plan.{plan}
use Rattle.runs.specs.Calls.{Memory, Answer}
use Rattle.runs.specs.Calls as calls
use Rattle.book.specs.declared.asked.Asked.{Asked}
use Rattle.book.specs.declared.asked.Reached.{Reached}
use Rattle.book.specs.declared.book.Book.{Book}

abbrev pub memory : {L G S : Type 0} → Book → List G → List L → List ℕ → S → Memory L G S
memory b grades labels entries list = record { started = b.started; gateway = b.gateway; grades = grades; plan = plan labels entries; list = list }

-- the memory without its list, which no test looks at
abbrev pub seen : {L G : Type 0} → Book → List G → List L → List ℕ → Memory L G (Unit {0})
seen b grades labels entries = memory b grades labels entries (tt {0})

abbrev pub start_told : {L : Type 0} → Result (Unit {0}) BookFault → Answer L
start_told (Ok u) = calls.started
start_told (Err f) = calls.refused f

abbrev pub work_told : {L : Type 0} → Result (ℕ × ℕ) BookFault → Answer L
work_told (Ok p) = calls.worked p.0 p.1
work_told (Err f) = calls.refused f

abbrev pub regrade_told : {L : Type 0} → Result (ℕ × ℕ) BookFault → Answer L
regrade_told (Ok p) = calls.regraded p.0 p.1
regrade_told (Err f) = calls.refused f

-- the label and the entry of a station that was reached
abbrev pub reached_told : {L : Type 0} → Option (Reached L) → Option (L × ℕ)
reached_told (Some r) = Some (r.label, r.entry)
reached_told None = None

abbrev pub ask_told : {L : Type 0} → Result (Asked L) BookFault → Answer L
ask_told (Ok a) = calls.asked (reached_told a.reached) a.waiting
ask_told (Err f) = calls.refused f

-- the links of a route stand in the first places
abbrev pub route_told : {L : Type 0} → Result ℕ BookFault → List ℕ → Answer L
route_told (Ok n) places = calls.routed (take n places)
route_told (Err f) places = calls.refused f
