-- A stretch of calls since a start or a regrade: what holds after each pick and each link, and that its picks are few.
use Rattle.std.proofs.Common.{◌≡◌, ℕ, ◌+◌, ◌<◌, ◌≤◌, true, false, List, [], length, sym, ap, ◌∙◌, arith}
use Rattle.kinds.specs.declared.kind.Kind.{Ghosts as Kind}
use Rattle.kinds.specs.Laws.{Laws}
use Rattle.lists.specs.Meaning.{count_below}
use Rattle.lists.specs.Counts.{count_same}
use Rattle.lists.specs.declared.list.CandidateList.{Ghosts as Candidates}
use Rattle.net.specs.Table.{Table, ForwardStar, station_count, link_count, tail_at}
use Rattle.paths.specs.Lists.{In}
use Rattle.paths.specs.Simple.{simple_paths}
use Rattle.plans.specs.Plan.{Plan}
use Rattle.runs.specs.Calls.{Memory}
use Rattle.law.proofs.Invariant.{View, view, Sized, Lab, Inv}
use Rattle.law.proofs.Counting.{count-bounded}
use Rattle.law.proofs.History.{Hist, hist_few, hist_none}

-- m with another plan and another list
abbrev pub moved : {L G S : Type 0} → Memory L G S → Plan L → S → Memory L G S
moved m p q = record { started = m.started; gateway = m.gateway; grades = m.grades; plan = p; list = q }

-- memories with the same parts are the same
pub memory_same : {L G S : Type 0} (m u : Memory L G S) → m.started ≡ u.started → m.gateway ≡ u.gateway → m.grades ≡ u.grades → m.plan ≡ u.plan
    → m.list ≡ u.list → m ≡ u
memory_same {L} {G} {S} m u a b c d e =
    let made : _ → ℕ → List G → Plan L → S → Memory L G S = λ v w x y z. record { started = v; gateway = w; grades = x; plan = y; list = z } in
    ap (λ v. made v m.gateway m.grades m.plan m.list) a
    ∙ ap (λ w. made u.started w m.grades m.plan m.list) b
    ∙ ap (λ x. made u.started u.gateway x m.plan m.list) c
    ∙ ap (λ y. made u.started u.gateway u.grades y m.list) d
    ∙ ap (λ z. made u.started u.gateway u.grades u.plan z) e

module _ {S K L G : Type 0} (k : Kind K L G) (c : Candidates S K L G) (t : Table) where
  -- since the view s0 of the last start or regrade this many picks were made; the links of `pend` are still to be gone through
  pub record Part (s0 : View L G) (pend : List ℕ) (m : Memory L G S) (picks : ℕ) : Type 0 where
    pub sized : Sized t m
    pub inv : Inv k t (view k c m) pend
    -- whoever waits is a station of the net
    pub netted : (v : ℕ) → c.waits m.list v ≡ true → v < station_count t
    -- the paths over which labels came
    pub ways : List (List ℕ)
    pub hist : Hist k t s0 (view k c m) ways
    pub count : picks + count_below (c.waits m.list) 1024 ≤ station_count t + length ways

  -- no link is left to be gone through
  abbrev pub Seg : View L G → Memory L G S → ℕ → Type 0
  Seg s0 m picks = Part s0 [] m picks

  pub seg_few : ForwardStar t → (s0 : View L G) (m : Memory L G S) (picks : ℕ) → Seg s0 m picks → picks ≤ station_count t + length (simple_paths t)
  seg_few star s0 m picks seg = omega (arith, seg.count, hist_few k t s0 star (view k c m) seg.ways seg.hist)

  pub fresh_seg : Laws k.carry k.at_least k.rank → (m : Memory L G S) → Sized t m → Inv k t (view k c m) []
      → ((v : ℕ) → c.waits m.list v ≡ true → v < station_count t) → Seg (view k c m) m 0
  fresh_seg laws m sized inv netted = record {
    sized = sized;
    inv = inv;
    netted = netted;
    ways = [];
    hist = hist_none k laws t (view k c m);
    count = omega (arith, count-bounded (c.waits m.list) (station_count t) 1024 netted);
  }

  -- The same plan over a list in which no others wait, with the links of `after` still to be gone through.
  pub with_list : (s0 : View L G) (pend after : List ℕ) (m : Memory L G S) (picks now : ℕ) (q : S) → Part s0 pend m picks
      → ((v : ℕ) → c.waits q v ≡ true → c.waits m.list v ≡ true)
      → ((l : ℕ) → l < link_count t → Lab k t (view k c m) (tail_at t l) → c.waits q (tail_at t l) ≡ false → (In l after → ⊥)
      → (c.waits m.list (tail_at t l) ≡ false) × (In l pend → ⊥))
      → now + count_below (c.waits q) 1024 ≤ picks + count_below (c.waits m.list) 1024 → Part s0 after (moved m m.plan q) now
  with_list s0 pend after m picks now q part waited done few = record {
    sized = record { labels_n = part.sized.labels_n; entries_n = part.sized.entries_n; grades_m = part.sized.grades_m };
    inv = record {
      gate_here = part.inv.gate_here;
      gate_label = part.inv.gate_label;
      gate_entry = part.inv.gate_entry;
      grown = part.inv.grown;
      settled = λ l in_net lab off not_gate none. let (out, gone) = done l in_net lab off none in part.inv.settled l in_net lab out not_gate gone;
    };
    netted = λ v h. part.netted v (waited v h);
    ways = part.ways;
    hist = record { gr_same = part.hist.gr_same; once = part.hist.once; closed = part.hist.closed; made = part.hist.made; past = part.hist.past };
    count = omega (arith, part.count, few);
  }

  -- where the same stations wait
  pub same_waiting : (s0 : View L G) (m : Memory L G S) (picks : ℕ) (q : S) → Seg s0 m picks → ((v : ℕ) → c.waits q v ≡ c.waits m.list v)
      → Seg s0 (moved m m.plan q) picks
  same_waiting s0 m picks q seg same =
      with_list s0 [] [] m picks picks q seg (λ v h. sym (same v) ∙ h) (λ l in_net lab off none. (sym (same (tail_at t l)) ∙ off, none))
      (omega (arith, count_same (c.waits q) (c.waits m.list) 1024 (λ v below. same v)))
