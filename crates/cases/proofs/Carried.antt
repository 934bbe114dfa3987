-- The calls of a book over a candidate list that is its own model, carried out.
use Rattle.std.specs.Prelude.{ℕ, zero, suc, true, not, List, [], ◌∷◌, length, filter, Some, None, Option, slice_set}
use Rattle.refusals.specs.declared.book.BookFault.{BookFault}
use Rattle.kinds.specs.declared.kind.Kind.{Ghosts as Kind}
use Rattle.net.specs.Table.{Table, station_count}
use Rattle.lists.specs.Order.{Order}
use Rattle.walks.specs.Walk.{entry_path}
use Rattle.runs.specs.Acts.{Act, empties, enters, gives, waiting_in}
use Rattle.plans.specs.Plan.{Plan, first_plan, known}
use Rattle.runs.specs.Scan.{after_pick, pick_acts, after_picks}
use Rattle.runs.specs.Regrade.{after_regrade, regrade_acts, entering, lost_by}
use Rattle.runs.specs.Calls.{Memory, Call, start, work, regrade, ask, route, Answer, started, worked, regraded, asked, routed, refused, refusal}
use Rattle.runs.specs.Law.{Event, event}
use Rattle.runs.specs.Ordered.{by_order}

-- one pick more, before the later ones, and the list after all
abbrev pub picked_before : {M : Type 0} → ℕ → List ℕ × M → List ℕ × M
picked_before x later = (x ∷ later.0, later.1)

-- the picks from one on that got this answer, and the list after them: none where it was nothing
abbrev pub from_pick : {M : Type 0} → Option ℕ → M → (ℕ → List ℕ × M) → List ℕ × M
from_pick None m later = ([], m)
from_pick (Some x) m later = picked_before x (later x)

-- a log with this call and its answer on top, and the memory after it
abbrev pub logged : {M L G : Type 0} → List (Event L G) → Call G → Answer L × Memory L G M → List (Event L G) × Memory L G M
logged log a done = (event a done.0 ∷ log, done.1)

module _ {M K L G : Type 0} (k : Kind K L G) (o : Order M L) (t : Table) where
  -- the list after what is asked of it
  abbrev pub list_after : M → List (Act L) → M
  list_after m [] = m
  list_after m (empties ∷ acts) = list_after (o.cleared m) acts
  list_after m (enters x labels ∷ acts) = list_after (o.entering m x labels) acts
  list_after m (gives labels answer ∷ acts) = list_after (o.picking m labels).1 acts

  -- the stations that the list answers, so many at most, and the list after it
  unfoldable pub picks_within : ℕ → ℕ → List G → Plan L → M → List ℕ × M
  picks_within zero gateway grades p m = ([], m)
  picks_within (suc n) gateway grades p m =
      from_pick (o.picking m p.labels).0 (o.picking m p.labels).1
      (λ x. picks_within n gateway grades (after_pick k t gateway grades p x) (list_after (o.picking m p.labels).1 (pick_acts k t gateway grades p x)))

  -- the answer of work that made these picks, and the memory after it
  abbrev pub worked_by : Memory L G M → List ℕ × M → Answer L × Memory L G M
  worked_by m made = (
    worked (length made.0) (waiting_in {K = K} {G = G} (by_order o) made.1),
    record {
      started = m.started;
      gateway = m.gateway;
      grades = m.grades;
      plan = after_picks k t m.gateway m.grades m.plan made.0;
      list = made.1;
    },
  )

  -- the answer of an accepted call, and the memory after it
  abbrev pub accepted_out : Memory L G M → Call G → Answer L × Memory L G M
  accepted_out m (start g) = (
    started,
    record {
      started = true;
      gateway = g;
      grades = m.grades;
      plan = first_plan k (station_count t) g;
      list = list_after m.list (empties ∷ enters g (first_plan k (station_count t) g).labels ∷ []);
    },
  )
  accepted_out m (work n) = worked_by m (picks_within n m.gateway m.grades m.plan m.list)
  accepted_out m (regrade l x) = (
    regraded (lost_by k t m.plan l x) (length (filter (λ v. not (o.waiting m.list v)) (entering k t m.plan l x))),
    record {
      started = m.started;
      gateway = m.gateway;
      grades = slice_set m.grades l x;
      plan = after_regrade k t m.plan l x;
      list = list_after m.list (regrade_acts k t m.plan l x);
    },
  )
  accepted_out m (ask v) = (asked (known k m.plan v) (waiting_in {K = K} {G = G} (by_order o) m.list), m)
  accepted_out m (route v places) = (routed (entry_path t m.plan.entries v), m)

  -- the same of any call, by the test that refuses it, or none
  abbrev pub judged_out : Option BookFault → Memory L G M → Call G → Answer L × Memory L G M
  judged_out (Some f) m a = (refused f, m)
  judged_out None m a = accepted_out m a

  abbrev pub carried_out : Memory L G M → Call G → Answer L × Memory L G M
  carried_out m a = judged_out (refusal t m a) m a

  -- the calls carried out one after the other, with the log so far
  abbrev pub run_out : List (Event L G) × Memory L G M → List (Call G) → List (Event L G) × Memory L G M
  run_out s [] = s
  run_out s (a ∷ calls) = run_out (logged s.0 a (carried_out s.1 a)) calls
