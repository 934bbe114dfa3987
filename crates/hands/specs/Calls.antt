-- The calls of the book that lines ask for, and what each comes to.
use Rattle.std.specs.Prelude.{◌≡◌, ℕ, ◌⊎◌, List, Some, None, Ok, Err, Option, Result}
use Rattle.std.specs.Result.{result_map_both}
use Rattle.refusals.specs.declared.kind.KindFault.{KindFault}
use Rattle.refusals.specs.Tells.{book_tells}
use Rattle.kinds.specs.declared.kind.Kind.{Ghosts}
use Rattle.lists.specs.Order.{Order, waits_by, emptied_by, entered_by, picked_by}
use Rattle.lists.specs.declared.list.CandidateList.{Ghosts as Candidates}
use Rattle.choice.specs.AnyOrder.{any_order}
use Rattle.choice.specs.AnyModels.{any_model}
use Rattle.choice.specs.declared.any.AnyList.{AnyList}
use Rattle.net.specs.Table.{Table}
use Rattle.runs.specs.Calls.{Memory, Call, start, work, regrade, ask, route}
use Rattle.runs.specs.Calls as calls
use Rattle.runs.specs.Law.{KeepsLaw}
use Rattle.runs.specs.Ordered.{by_order}
use Rattle.answers.specs.declared.answer.Answer.{Answer}
use Rattle.answers.specs.declared.answer.Answer.TheVariants as answer
use Rattle.answers.specs.declared.answer.Label.{Label}
use Rattle.answers.specs.declared.answer.Reached.{Reached}
use Rattle.answers.specs.declared.trouble.Trouble.{Trouble}
use Rattle.answers.specs.declared.trouble.Usage.TheVariants as usage
use Rattle.answers.specs.declared.verb.CallVerb.{CallVerb}
use Rattle.answers.specs.declared.verb.CallVerb.TheVariants as asked
use Rattle.answers.specs.Outcomes.{Does, NoMemory}
use Rattle.reading.specs.declared.read.Readable.{Ghosts as Readings}
use Rattle.hands.specs.declared.ask.NotAsked.{NotAsked}
use Rattle.hands.specs.Held.{HeldBy}
use Rattle.hands.specs.Acts.{not_asked}
use Rattle.hands.specs.Asks.{number_asked, regrade_asked, route_asked, read_into, or_troubled}

-- the steps of lists that keep to an order, where a list is known by its model
abbrev pub by_model : {S K L G M : Type 0} → (S → M) → Order M L → Candidates S K L G
by_model model o = record { waits = waits_by model o; emptied = emptied_by model o; entered = entered_by model o; picked = picked_by model o }

module _ {S G : Type 0} (single : Readings S) (makes : S → Result G KindFault) where
  -- the call that a line asks for
  abbrev pub call_asked : CallVerb → List (List ℕ) → Result (Call G) NotAsked
  call_asked asked.Start ws = or_troubled (read_into start (number_asked usage.Start ws))
  call_asked asked.Work ws = or_troubled (read_into work (number_asked usage.Work ws))
  call_asked asked.Regrade ws = result_map_both (λ a. regrade a.link a.grade) (λ e. e) (regrade_asked single.reads single.bounds makes ws)
  call_asked asked.Ask ws = or_troubled (read_into ask (number_asked usage.Ask ws))
  call_asked asked.Route ws = or_troubled (read_into (λ a. route a.station a.places) (route_asked ws))

-- the answer of a call, with each label as an answer has it
module _ {L : Type 0} (shown : L → Label) where
  abbrev pub reached_shown : Option (L × ℕ) → Option Reached
  reached_shown None = None
  reached_shown (Some p) = Some (record { label = shown p.0; entry = p.1 })

  abbrev pub call_answer : calls.Answer L → Answer
  call_answer calls.started = answer.Started
  call_answer (calls.worked made waiting) = answer.Worked made waiting
  call_answer (calls.regraded lost new) = answer.Regraded lost new
  call_answer (calls.asked what waiting) = answer.Asked (reached_shown what) waiting
  call_answer (calls.routed links) = answer.Route links
  call_answer (calls.refused fault) = answer.Refused (book_tells fault)

-- What a line comes to that asks for a call. `Made` says of a call, its answer, and the memory before and after, that the book made it so.
module _ {L G M : Type 0} (shown : L → Label) (Made : Memory L G M → Call G → calls.Answer L → Memory L G M → Type 0) where
  -- the call that was asked for was made, or none was, for a trouble or a refusal
  abbrev pub Called : Memory L G M → Result (Call G) NotAsked → Result Answer Trouble → Memory L G M → Type 0
  Called m (Err e) r u = Does (not_asked e m) r u
  Called m (Ok a) r u = (b : calls.Answer L) × Made m a b u × (r ≡ Ok (call_answer shown b))

  module _ {S : Type 0} (single : Readings S) (makes : S → Result G KindFault) where
    -- only `route` takes memory, for its links
    abbrev pub CallLine : CallVerb → Memory L G M → List (List ℕ) → Result Answer Trouble → Memory L G M → Type 0
    CallLine asked.Start m ws r u = Called m (call_asked single makes asked.Start ws) r u
    CallLine asked.Work m ws r u = Called m (call_asked single makes asked.Work ws) r u
    CallLine asked.Regrade m ws r u = Called m (call_asked single makes asked.Regrade ws) r u
    CallLine asked.Ask m ws r u = Called m (call_asked single makes asked.Ask ws) r u
    CallLine asked.Route m ws r u = NoMemory m r u ⊎ Called m (call_asked single makes asked.Route ws) r u

module _ {K L G : Type 0} (k : Ghosts K L G) (t : Table) where
  -- by the rules, where the list is known by its model
  abbrev pub ByRules : HeldBy L G → Call G → calls.Answer L → HeldBy L G → Type 0
  ByRules m a b u = calls.Does k (by_order (any_order k)) t m a b u

  -- by the rules, and whatever run of calls has led to the memory before, this call and its answer lead to what the law of runs promises; over the list itself
  abbrev pub Lawful : Memory L G (AnyList K L G k) → Call G → calls.Answer L → Memory L G (AnyList K L G k) → Type 0
  Lawful m a b u = calls.Does k (by_model any_model (any_order k)) t m a b u × KeepsLaw k (by_model any_model (any_order k)) t m a b u
