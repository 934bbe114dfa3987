-- The calls of a book: what each tests, answers and does to the memory, by the rules.
use Rattle.std.specs.Prelude.{◌≡◌, ℕ, ◌≤◌, Bool, true, if◌then◌else◌, not, List, [], ◌∷◌, ◌++◌, filter, length, Some, None, Option, nat_lt, nat_le, slice_set}
use Rattle.refusals.specs.declared.book.BookFault.{BookFault}
use Rattle.refusals.specs.declared.book.BookFault.TheVariants as fault
use Rattle.kinds.specs.declared.kind.Kind.{Ghosts as Kind}
use Rattle.net.specs.Table.{Table, station_count, link_count}
use Rattle.lists.specs.declared.list.CandidateList.{Ghosts as Candidates}
use Rattle.walks.specs.Walk.{labelled, entry_path, comes_home}
use Rattle.runs.specs.Acts.{Act, empties, enters, gives, Acts, waiting_in}
use Rattle.plans.specs.Plan.{Plan, graded, sized, first_plan, known}
use Rattle.plans.specs.Tests.{unless}
use Rattle.runs.specs.Scan.{after_picks, picks_acts}
use Rattle.runs.specs.Regrade.{after_regrade, regrade_acts, entering, lost_by}

-- what a book records, and what is handed over beside the net at each call: grades, labels and entries, and the candidate list
pub record Memory (L G S : Type 0) : Type 0 where
  pub started : Bool
  pub gateway : ℕ
  pub grades : List G
  pub plan : Plan L
  pub list : S

-- a start from this gateway; work with so many picks allowed; a regrade of a link; a question after a station; the route to a station, with so many places for links
pub data Call (G : Type 0) : Type 0 where
  start : ℕ → Call G
  work : ℕ → Call G
  regrade : ℕ → G → Call G
  ask : ℕ → Call G
  route : ℕ → ℕ → Call G

-- picks made and stations still waiting; labels lost and stations new to the list; label and entry, or none, and the stations waiting; the links of the route
pub data Answer (L : Type 0) : Type 0 where
  started : Answer L
  worked : ℕ → ℕ → Answer L
  regraded : ℕ → ℕ → Answer L
  asked : Option (L × ℕ) → ℕ → Answer L
  routed : List ℕ → Answer L
  refused : BookFault → Answer L

module _ {L G S : Type 0} (t : Table) (m : Memory L G S) where
  -- The first test that fails, or none. By their numbers: start tests 5, 6, 7; work 5, 6, 8; regrade 5, 6, 8, 9; ask 6, 8, 7; route 6, 8, 7, 10, 11, 12.
  abbrev pub refusal : Call G → Option BookFault
  refusal (start g) = unless (graded t m.grades) fault.Grades (unless (sized t m.plan) fault.Stations (unless (nat_lt g (station_count t)) fault.NoStation None))
  refusal (work n) = unless (graded t m.grades) fault.Grades (unless (sized t m.plan) fault.Stations (unless m.started fault.NotStarted None))
  refusal (regrade l x) =
      unless (graded t m.grades) fault.Grades (unless (sized t m.plan) fault.Stations (unless m.started fault.NotStarted (unless (nat_lt l (link_count t)) fault.NoLink None)))
  refusal (ask v) = unless (sized t m.plan) fault.Stations (unless m.started fault.NotStarted (unless (nat_lt v (station_count t)) fault.NoStation None))
  refusal (route v places) =
      unless (sized t m.plan) fault.Stations (unless m.started fault.NotStarted (unless (nat_lt v (station_count t)) fault.NoStation
      (unless (labelled m.plan.entries v) fault.Unlabelled (unless (comes_home t m.plan.entries m.gateway v) fault.Astray
      (unless (nat_le (length (entry_path t m.plan.entries v)) places) (fault.Short (length (entry_path t m.plan.entries v))) None)))))

module _ {S K L G : Type 0} (k : Kind K L G) (c : Candidates S K L G) (t : Table) where
  -- An accepted start: every station has the start label and no entry but the gateway's own; the list is emptied, and the gateway enters.
  pub record Starts (m : Memory L G S) (g : ℕ) (u : Memory L G S) : Type 0 where
    pub book : (u.started ≡ true) × (u.gateway ≡ g)
    pub grades : u.grades ≡ m.grades
    pub plan : u.plan ≡ first_plan k (station_count t) g
    pub list : Acts c m.list (empties ∷ enters g (first_plan k (station_count t) g).labels ∷ []) u.list

  -- what is asked of the list after these picks: one pick more, which answers nothing, where the allowance is not spent
  abbrev pub last_pick : ℕ → List ℕ → List L → List (Act L)
  last_pick allowed picks labels = if nat_lt (length picks) allowed then gives labels None ∷ [] else []

  -- Accepted work: the list answers stations until the allowance is spent or it answers nothing.
  pub record Works (m : Memory L G S) (allowed made waiting : ℕ) (u : Memory L G S) : Type 0 where
    pub book : (u.started ≡ m.started) × (u.gateway ≡ m.gateway)
    pub grades : u.grades ≡ m.grades
    pub picks : List ℕ
    pub within : length picks ≤ allowed
    pub plan : u.plan ≡ after_picks k t m.gateway m.grades m.plan picks
    pub list : Acts c m.list (picks_acts k t m.gateway m.grades m.plan picks ++ last_pick allowed picks u.plan.labels) u.list
    pub counted : made ≡ length picks
    pub left : waiting ≡ waiting_in c u.list

  -- An accepted regrade of a link.
  pub record Regrades (m : Memory L G S) (l : ℕ) (x : G) (lost new : ℕ) (u : Memory L G S) : Type 0 where
    pub book : (u.started ≡ m.started) × (u.gateway ≡ m.gateway)
    pub grades : u.grades ≡ slice_set m.grades l x
    pub plan : u.plan ≡ after_regrade k t m.plan l x
    pub list : Acts c m.list (regrade_acts k t m.plan l x) u.list
    pub losses : lost ≡ lost_by k t m.plan l x
    -- those that enter and did not wait
    pub fresh : new ≡ length (filter (λ v. not (c.waits m.list v)) (entering k t m.plan l x))

  -- One call: the memory before, the call, its answer, and the memory after.
  pub data Does : Memory L G S → Call G → Answer L → Memory L G S → Type 0 where
    refuses : {m : Memory L G S} {a : Call G} {f : BookFault} → refusal t m a ≡ Some f → Does m a (refused f) m
    starts : {m : Memory L G S} {g : ℕ} {u : Memory L G S} → refusal t m (start g) ≡ None → Starts m g u → Does m (start g) started u
    works : {m : Memory L G S} {allowed made waiting : ℕ} {u : Memory L G S}
        → refusal t m (work allowed) ≡ None → Works m allowed made waiting u → Does m (work allowed) (worked made waiting) u
    regrades : {m : Memory L G S} {l : ℕ} {x : G} {lost new : ℕ} {u : Memory L G S}
        → refusal t m (regrade l x) ≡ None → Regrades m l x lost new u → Does m (regrade l x) (regraded lost new) u
    asks : {m : Memory L G S} {v : ℕ} → refusal t m (ask v) ≡ None → Does m (ask v) (asked (known k m.plan v) (waiting_in c m.list)) m
    routes : {m : Memory L G S} {v places : ℕ} → refusal t m (route v places) ≡ None → Does m (route v places) (routed (entry_path t m.plan.entries v)) m
