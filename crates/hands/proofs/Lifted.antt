-- A call of the book over lists that keep to an order is the same call over the models of these lists, and so is what a line comes to that asks for one.
use Rattle.std.proofs.Common.{◌≡◌, ℕ, List, [], ◌∷◌, ◌++◌, Ok, Err, Result, refl, ap, ◌∙◌, inl, inr}
use Rattle.refusals.specs.declared.kind.KindFault.{KindFault}
use Rattle.kinds.specs.declared.kind.Kind.{Ghosts}
use Rattle.lists.specs.Order.{Order}
use Rattle.net.specs.Table.{Table, station_count}
use Rattle.runs.specs.Acts.{Act, empties, enters, gives, Acted, Acts}
use Rattle.plans.specs.Plan.{first_plan}
use Rattle.runs.specs.Scan.{picks_acts}
use Rattle.runs.specs.Regrade.{regrade_acts}
use Rattle.runs.specs.Calls.{Memory, Call, start, work, regrade, ask, route, Answer, refusal, last_pick, Does, refuses, starts, works, regrades, asks, routes}
use Rattle.runs.specs.Ordered.{by_order}
use Rattle.choice.specs.AnyOrder.{any_order}
use Rattle.choice.specs.AnyModels.{any_model}
use Rattle.choice.specs.declared.any.AnyList.{AnyList}
use Rattle.answers.specs.declared.answer.Label.{Label}
use Rattle.answers.specs.declared.answer.Answer.{Answer as Said}
use Rattle.answers.specs.declared.trouble.Trouble.{Trouble}
use Rattle.answers.specs.declared.verb.CallVerb.{CallVerb}
use Rattle.answers.specs.declared.verb.CallVerb.TheVariants as asked
use Rattle.reading.specs.declared.read.Readable.{Ghosts as Readings}
use Rattle.hands.specs.declared.ask.NotAsked.{NotAsked}
use Rattle.hands.specs.declared.ask.NotAsked.TheVariants.{Refused, Troubled}
use Rattle.hands.specs.Calls.{by_model, call_answer, Called, CallLine, ByRules, Lawful}

-- a memory, with the list by its model
abbrev pub modelled : {L G S M : Type 0} → (S → M) → Memory L G S → Memory L G M
modelled model m = record { started = m.started; gateway = m.gateway; grades = m.grades; plan = m.plan; list = model m.list }

-- no test looks at the list
same_refusal : {L G S M : Type 0} (model : S → M) (t : Table) (m : Memory L G S) (a : Call G) → refusal t (modelled model m) a ≡ refusal t m a
same_refusal model t m (start g) = refl
same_refusal model t m (work n) = refl
same_refusal model t m (regrade l x) = refl
same_refusal model t m (ask v) = refl
same_refusal model t m (route v places) = refl

module _ {S K L G M : Type 0} (k : Ghosts K L G) (model : S → M) (o : Order M L) (t : Table) where
  acted : (s : S) (a : Act L) (u : S) → Acted (by_model {K = K} {G = G} model o) s a u → Acted (by_order {K = K} {G = G} o) (model s) a (model u)
  acted s empties u e = e
  acted s (enters x labels) u e = e
  acted s (gives labels answer) u e = e

  acts : (made : List (Act L)) (s u : S) → Acts (by_model {K = K} {G = G} model o) s made u → Acts (by_order {K = K} {G = G} o) (model s) made (model u)
  acts [] s u e = ap model e
  acts (a ∷ rest) s u e = (model e.0, acted s a e.0 e.1, acts rest e.0 u e.2)

  pub lifted : {m : Memory L G S} {a : Call G} {b : Answer L} {u : Memory L G S} → Does k (by_model model o) t m a b u → Does k (by_order o) t (modelled model m) a b (modelled model u)
  lifted (refuses {m} {a} h) = refuses (same_refusal model t m a ∙ h)
  lifted (starts {m} {g} {u} h s) = starts h (record {
    book = s.book;
    grades = s.grades;
    plan = s.plan;
    list = acts (empties ∷ enters g (first_plan k (station_count t) g).labels ∷ []) m.list u.list s.list;
  })
  lifted (works {m} {allowed} {u} h s) = works h (record {
    book = s.book;
    grades = s.grades;
    picks = s.picks;
    within = s.within;
    plan = s.plan;
    counted = s.counted;
    left = s.left;
    list = acts (picks_acts k t m.gateway m.grades m.plan s.picks ++ last_pick k (by_model model o) t allowed s.picks u.plan.labels) m.list u.list s.list;
  })
  lifted (regrades {m} {l} {x} {u} h s) = regrades h (record {
    book = s.book;
    grades = s.grades;
    plan = s.plan;
    losses = s.losses;
    fresh = s.fresh;
    list = acts (regrade_acts k t m.plan l x) m.list u.list s.list;
  })
  lifted (asks h) = asks h
  lifted (routes h) = routes h

module _ {L G M : Type 0} (shown : L → Label) (Made : Memory L G M → Call G → Answer L → Memory L G M → Type 0) where
  -- the call that was asked for is the one that the book made
  pub called : {m : Memory L G M} {a : Call G} {b : Answer L} {u : Memory L G M} (asked : Result (Call G) NotAsked) (r : Result Said Trouble)
      → asked ≡ Ok a → r ≡ Ok (call_answer shown b) → Made m a b u → Called shown Made m asked r u
  called {b = b} asked r e f d = rw e (b, d, f)

module _ {K L G : Type 0} (k : Ghosts K L G) (shown : L → Label) (t : Table) where
  by-model : (m u : Memory L G (AnyList K L G k)) (asked : Result (Call G) NotAsked) (r : Result Said Trouble)
      → Called shown (Lawful k t) m asked r u → Called shown (ByRules k t) (modelled any_model m) asked r (modelled any_model u)
  by-model m u (Err (Troubled e)) r (says, leaves) = (says, ap (modelled any_model) leaves)
  by-model m u (Err (Refused f)) r (says, leaves) = (says, ap (modelled any_model) leaves)
  by-model m u (Ok a) r (b, (d, law), says) = (b, lifted k any_model (any_order k) t d, says)

  -- what a line comes to over the list itself it comes to over the model of the list
  pub line_by_model : {S : Type 0} (single : Readings S) (makes : S → Result G KindFault) (m u : Memory L G (AnyList K L G k)) (v : CallVerb) (ws : List (List ℕ)) (r : Result Said Trouble)
      → CallLine shown (Lawful k t) single makes v m ws r u → CallLine shown (ByRules k t) single makes v (modelled any_model m) ws r (modelled any_model u)
  line_by_model single makes m u asked.Start ws r h = by-model m u _ r h
  line_by_model single makes m u asked.Work ws r h = by-model m u _ r h
  line_by_model single makes m u asked.Regrade ws r h = by-model m u _ r h
  line_by_model single makes m u asked.Ask ws r h = by-model m u _ r h
  line_by_model single makes m u asked.Route ws r (inl (says, leaves)) = inl (says, ap (modelled any_model) leaves)
  line_by_model single makes m u asked.Route ws r (inr h) = inr (by-model m u _ r h)
