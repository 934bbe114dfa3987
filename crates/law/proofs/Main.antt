-- The law of runs holds: what a run keeps, call by call, and what that promises.
use Rattle.std.proofs.Common.{◌≡◌, ℕ, ◌+◌, ◌≤◌, true, false, List, length, Some, None, Option, refl, sym, ◌∙◌, subst, arith}
use Rattle.std.proofs.lemmas.Bool.{both_ways}
use Rattle.kinds.specs.declared.kind.Kind.{Ghosts as Kind}
use Rattle.kinds.specs.Laws.{Laws}
use Rattle.lists.specs.Meaning.{ListLaws}
use Rattle.lists.specs.declared.list.CandidateList.{Ghosts as Candidates}
use Rattle.net.specs.Table.{Table, ForwardStar, station_count}
use Rattle.paths.specs.Simple.{simple_paths}
use Rattle.plans.specs.Faults.{first_fault}
use Rattle.plans.proofs.Exact.{exact}
use Rattle.runs.specs.Acts.{AtRest}
use Rattle.runs.specs.Calls.{Memory, Call, start, work, regrade, Answer, started, worked, regraded, refusal, Starts, Works, Regrades, Does, refuses, starts, works, regrades, asks, routes}
use Rattle.runs.specs.Law.{Event, picks_after, picks_since, gateway_after, gateway_since, SaysRest, Run, new_book, afresh, then_call, aside, KeepsLaw, Law}
use Rattle.law.proofs.Invariant.{Fit, View, view}
use Rattle.law.proofs.Fitting.{star_fit}
use Rattle.law.proofs.Counting.{rest_from_count}
use Rattle.law.proofs.Segments.{Seg, seg_few, fresh_seg}
use Rattle.law.proofs.Picking.{work_kept, work_done}
use Rattle.law.proofs.Accepting.{work_passed, regrade_passed}
use Rattle.law.proofs.Starting.{start_kept}
use Rattle.law.proofs.Rest.{rests}
use Rattle.law.proofs.Clearing.{regrade_keeps}
use Rattle.law.proofs.Regrading.{regrade_kept}

module _ {S K L G : Type 0} (k : Kind K L G) (c : Candidates S K L G) (t : Table) where
  -- what a call that was answered so did
  started-does : {m u : Memory L G S} {g : ℕ} → Does k c t m (start g) started u → (refusal t m (start g) ≡ None) × Starts k c t m g u
  started-does (starts e s) = (e, s)

  worked-does : {m u : Memory L G S} {allowed made waiting : ℕ} → Does k c t m (work allowed) (worked made waiting) u
      → Works k c t m allowed made waiting u
  worked-does (works e w) = w

  regraded-does : {m u : Memory L G S} {l lost new : ℕ} {x : G} → Does k c t m (regrade l x) (regraded lost new) u
      → (refusal t m (regrade l x) ≡ None) × Regrades k c t m l x lost new u
  regraded-does (regrades e r) = (e, r)

  -- where work or a question answers that none waits, none does
  rest-does : ListLaws c.waits c.emptied c.entered c.picked → {m u : Memory L G S} {a : Call G} {b : Answer L} → Does k c t m a b u → SaysRest b → AtRest c u.list
  rest-does lists (refuses e) told = absurd told
  rest-does lists (starts e s) told = absurd told
  rest-does lists (works {u = u} e w) told = rest_from_count c lists u.list (sym w.left ∙ told)
  rest-does lists (regrades e r) told = absurd told
  rest-does lists (asks {m = m} e) told = rest_from_count c lists m.list told
  rest-does lists (routes e) told = absurd told

  -- What every run keeps, where the last accepted start, if any, was from this gateway, and n picks were reported since it or a regrade.
  record Reach (u : Memory L G S) (gateway : Option ℕ) (n : ℕ) : Type 0 where
    live : (g : ℕ) → gateway ≡ Some g → (u.started ≡ true) × (u.gateway ≡ g) × ((s0 : View L G) × Seg k c t s0 u n)
    -- before the first start every other call is refused
    idle : gateway ≡ None → (u.started ≡ false) × (n ≡ 0)

  module _ (laws : Laws k.carry k.at_least k.rank) (lists : ListLaws c.waits c.emptied c.entered c.picked) (fit : Fit t) where
    -- a start begins anew
    start-reach : {m u : Memory L G S} (g : ℕ) → refusal t m (start g) ≡ None → Starts k c t m g u → Reach u (Some g) 0
    start-reach {m} {u} g e s = record {
      live = λ h is. (s.book.0, s.book.1 ∙ cc, (view k c u, start_kept k c t laws lists fit m g u e s));
      idle = λ is. absurd cc;
    }

    -- of a book that is under way there was a start
    under-way : {m : Memory L G S} {n : ℕ} (gateway : Option ℕ) → Reach m gateway n → m.started ≡ true
        → (g : ℕ) × (gateway ≡ Some g) × (m.gateway ≡ g) × ((s0 : View L G) × Seg k c t s0 m n)
    under-way None r on = absurd (both_ways _ (r.idle refl).0 on)
    under-way (Some g) r on = let (still_on, at, seg) = r.live g refl in (g, refl, at, seg)

    call-kept : {m u : Memory L G S} {a : Call G} {b : Answer L} (gateway : Option ℕ) (n : ℕ) → Reach m gateway n → Does k c t m a b u
        → Reach u (gateway_after b a gateway) (picks_after b n)
    call-kept gateway n r (refuses e) = r
    call-kept gateway n r (starts {g = g} e s) = start-reach g e s
    call-kept gateway n r (works {m = m} {allowed = allowed} {made = made} {waiting = waiting} {u = u} e w) =
        let on = (work_passed t m allowed e).1 in
        let (g, is, at, before) = under-way gateway r on in
        record {
          live = λ h same. (w.book.0 ∙ on, w.book.1 ∙ at ∙ cc, (before.0, work_kept k c t laws lists fit before.0 m n allowed made waiting u before.1 w));
          idle = λ none. absurd cc;
        }
    call-kept gateway n r (regrades {m = m} {l = l} {x = x} {lost = lost} {new = new} {u = u} e w) =
        let on = (regrade_passed t m l x e).1 in
        let (g, is, at, before) = under-way gateway r on in
        let seg = before.1 in
        let next = regrade_kept k c t lists fit m u l x lost new seg.sized seg.inv seg.netted e w in
        record {
          live = λ h same. (w.book.0 ∙ on, w.book.1 ∙ at ∙ cc, (view k c u, fresh_seg k c t laws u next.0 next.1 next.2));
          idle = λ none. absurd cc;
        }
    call-kept gateway n r (asks e) = r
    call-kept gateway n r (routes e) = r

    run-kept : {from u : Memory L G S} {log : List (Event L G)} → Run k c t from log u → Reach u (gateway_since log) (picks_since log)
    run-kept (new_book off) = record { live = λ g is. absurd cc; idle = λ is. (off, refl) }
    run-kept (afresh {g = g} d) = let s = started-does d in start-reach g s.0 s.1
    run-kept (then_call {log = log} r d) = call-kept (gateway_since log) (picks_since log) (run-kept r) d
    run-kept (aside r q e) = run-kept r

    few-kept : ForwardStar t → {u : Memory L G S} {n : ℕ} (gateway : Option ℕ) → Reach u gateway n → n ≤ station_count t + length (simple_paths t)
    few-kept star None r = omega (arith, (r.idle refl).1)
    few-kept star {u} {n} (Some g) r = let (on, at, seg) = r.live g refl in seg_few k c t star seg.0 u n seg.1

  -- one call more keeps the law
  pub keeps_law : Laws k.carry k.at_least k.rank → ListLaws c.waits c.emptied c.entered c.picked → ForwardStar t
      → {m u : Memory L G S} {a : Call G} {b : Answer L} → Does k c t m a b u → KeepsLaw k c t m a b u
  keeps_law laws lists star {m} {u} {a} {b} d from log run =
      let fit = star_fit star in
      let reached = call-kept laws lists fit (gateway_since log) (picks_since log) (run-kept laws lists fit run) d in
      let checks : (g : ℕ) → gateway_after b a (gateway_since log) ≡ Some g → AtRest c u.list → first_fault k t g u.grades u.plan ≡ None =
      λ g is still.
      let (on, at, seg) = reached.live g is in
      subst (λ h. first_fault k t h u.grades u.plan ≡ None) at (rests k laws c t fit u seg.1.sized seg.1.inv still) in
      record {
        recorded = λ g is. let (on, at, seg) = reached.live g is in (on, at);
        best = λ g is still. ((exact k laws star g u.grades u.plan).0 (checks g is still)).paths;
        checks = checks;
        few = few-kept laws lists fit star (gateway_after b a (gateway_since log)) reached;
        rest = rest-does lists d;
        done = λ allowed made waiting asked told less.
            let did : Does k c t m (work allowed) (worked made waiting) u = rw (asked, told) at d in
            work_done k c t lists m allowed made waiting u (worked-does did) less;
        kept = λ l x lost new asked told.
            let did : Does k c t m (regrade l x) (regraded lost new) u = rw (asked, told) at d in
            let r = regraded-does did in
            regrade_keeps k c t fit m u l x lost new (regrade_passed t m l x r.0).0 r.1;
      }

  pub law : Laws k.carry k.at_least k.rank → ListLaws c.waits c.emptied c.entered c.picked → ForwardStar t → Law k c t
  law laws lists star m u a b d = keeps_law laws lists star d
