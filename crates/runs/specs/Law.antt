-- The law of runs: what is promised after any row of calls over a new book.
use Rattle.std.specs.Prelude.{◌≡◌, ℕ, ◌+◌, ◌<◌, ◌≤◌, true, false, List, [], ◌∷◌, length, Some, None, Option, ◌⊎◌}
use Rattle.kinds.specs.declared.kind.Kind.{Ghosts as Kind}
use Rattle.lists.specs.declared.list.CandidateList.{Ghosts as Candidates}
use Rattle.net.specs.Table.{Table, station_count}
use Rattle.paths.specs.Lists.{In}
use Rattle.paths.specs.Simple.{simple_paths}
use Rattle.refusals.specs.declared.book.BookFault.{BookFault}
use Rattle.walks.specs.Walk.{entry_at, labelled, entry_path}
use Rattle.plans.specs.Best.{BestPaths}
use Rattle.plans.specs.Faults.{first_fault}
use Rattle.plans.specs.Plan.{label_at}
use Rattle.runs.specs.Acts.{AtRest}
use Rattle.runs.specs.Calls.{Memory, Call, start, work, regrade, Answer, started, worked, regraded, asked, routed, refused, refusal, Does}

-- a call and its answer; in a log of them the newest stands first
pub record Event (L G : Type 0) : Type 0 where
  pub call : Call G
  pub answer : Answer L

abbrev pub event : {L G : Type 0} → Call G → Answer L → Event L G
event call answer = record { call = call; answer = answer }

-- the picks reported since the last accepted start or regrade, where n were before this answer
abbrev pub picks_after : {L : Type 0} → Answer L → ℕ → ℕ
picks_after started n = 0
picks_after (worked made waiting) n = made + n
picks_after (regraded lost new) n = 0
picks_after (asked what waiting) n = n
picks_after (routed links) n = n
picks_after (refused f) n = n

abbrev pub picks_since : {L G : Type 0} → List (Event L G) → ℕ
picks_since [] = 0
picks_since (e ∷ earlier) = picks_after e.answer (picks_since earlier)

-- the gateway of the last accepted start, where it was `before` before this answer to this call
abbrev pub gateway_of : {G : Type 0} → Call G → Option ℕ → Option ℕ
gateway_of (start g) before = Some g
gateway_of _ before = before

abbrev pub gateway_after : {L G : Type 0} → Answer L → Call G → Option ℕ → Option ℕ
gateway_after started a before = gateway_of a before
gateway_after (worked made waiting) a before = before
gateway_after (regraded lost new) a before = before
gateway_after (asked what waiting) a before = before
gateway_after (routed links) a before = before
gateway_after (refused f) a before = before

abbrev pub gateway_since : {L G : Type 0} → List (Event L G) → Option ℕ
gateway_since [] = None
gateway_since (e ∷ earlier) = gateway_after e.answer e.call (gateway_since earlier)

-- the answer says that no station waits
abbrev pub SaysRest : {L : Type 0} → Answer L → Type 0
SaysRest started = ⊥
SaysRest (worked made waiting) = waiting ≡ 0
SaysRest (regraded lost new) = ⊥
SaysRest (asked what waiting) = waiting ≡ 0
SaysRest (routed links) = ⊥
SaysRest (refused f) = ⊥

module _ {S K L G : Type 0} (k : Kind K L G) (c : Candidates S K L G) (t : Table) where
  -- From one memory to the other by the calls of this log, with their answers, and nothing else wrote to the memory on the way.
  pub data Run : Memory L G S → List (Event L G) → Memory L G S → Type 0 where
    -- a run begins with a book that was not started, whatever grades, labels, entries and list hold
    new_book : {m : Memory L G S} → m.started ≡ false → Run m [] m
    -- or, of any book, with an accepted start, which writes labels, entries and list anew
    afresh : {m : Memory L G S} {g : ℕ} {u : Memory L G S} → Does k c t m (start g) started u → Run m (event (start g) started ∷ []) u
    then_call : {from : Memory L G S} {a : Call G} {b : Answer L} {log : List (Event L G)} {u m : Memory L G S}
        → Run from log m → Does k c t m a b u → Run from (event a b ∷ log) u
    -- a call that was refused over other memory, say of another length, wrote nothing
    aside : {from : Memory L G S} {a : Call G} {f : BookFault} {log : List (Event L G)} {m : Memory L G S}
        → Run from log m → (q : Memory L G S) → refusal t q a ≡ Some f → Run from (event a (refused f) ∷ log) m

  -- the station v stands in u as it stood in m, or it had a label in m, its entry path ran over link l, and it has no label in u
  abbrev pub KeptOrLost : ℕ → Memory L G S → Memory L G S → ℕ → Type 0
  KeptOrLost l m u v =
      ((label_at k u.plan v ≡ label_at k m.plan v) × (entry_at u.plan.entries v ≡ entry_at m.plan.entries v))
      ⊎ ((labelled m.plan.entries v ≡ true) × In l (entry_path t m.plan.entries v) × (labelled u.plan.entries v ≡ false))

  -- What is promised of a run whose last call, with its answer, led from memory m to memory u, after those of the log.
  pub record Promise (m : Memory L G S) (a : Call G) (b : Answer L) (earlier : List (Event L G)) (u : Memory L G S) : Type 0 where
    -- the book records that it was started, and the gateway of the last accepted start
    pub recorded : (g : ℕ) → gateway_since (event a b ∷ earlier) ≡ Some g → (u.started ≡ true) × (u.gateway ≡ g)
    -- at rest, every station has the best of its paths from the gateway of the last accepted start, by the grades of that moment
    pub best : (g : ℕ) → gateway_since (event a b ∷ earlier) ≡ Some g → AtRest c u.list → BestPaths k t g u.grades u.plan
    -- and the check finds no fault in them
    pub checks : (g : ℕ) → gateway_since (event a b ∷ earlier) ≡ Some g → AtRest c u.list → first_fault k t g u.grades u.plan ≡ None
    -- since the last accepted start or regrade no more picks were reported than there are stations and simple paths
    pub few : picks_since (event a b ∷ earlier) ≤ station_count t + length (simple_paths t)
    -- where work or a question answers that none waits, none does
    pub rest : SaysRest b → AtRest c u.list
    -- work that reports fewer picks than it was allowed leaves no station waiting
    pub done : (allowed made waiting : ℕ) → a ≡ work allowed → b ≡ worked made waiting → made < allowed → (waiting ≡ 0) × AtRest c u.list
    -- a regrade takes labels only from stations whose entry path ran over its link just before, and the others keep label and entry
    pub kept : (l : ℕ) (x : G) (lost new : ℕ) → a ≡ regrade l x → b ≡ regraded lost new → (v : ℕ) → KeptOrLost l m u v

  -- This call and its answer, after any run that has led to memory m, lead to what is promised.
  abbrev pub KeepsLaw : Memory L G S → Call G → Answer L → Memory L G S → Type 0
  KeepsLaw m a b u = (from : Memory L G S) (log : List (Event L G)) → Run from log m → Promise m a b log u

  -- after every run and one call more
  abbrev pub Law : Type 0
  Law = (m u : Memory L G S) (a : Call G) (b : Answer L) → Does k c t m a b u → KeepsLaw m a b u
