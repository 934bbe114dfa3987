-- A call, from what its parts told and left.
use Rattle.std.proofs.Common.{◌≡◌, ℕ, ◌<◌, true, List, ◌++◌, length, replicate, set, take, Option, None, refl, arith}
use Rattle.std.proofs.Math.Seq.{take-append_seam}
use Rattle.kinds.specs.declared.kind.Kind.{Ghosts as Kind}
use Rattle.net.specs.Table.{Table, ForwardStar}
use Rattle.lists.specs.declared.list.CandidateList.{Ghosts as Candidates}
use Rattle.walks.specs.Walk.{unlabelled, own, entry_path}
use Rattle.plans.specs.Plan.{plan, known}
use Rattle.runs.specs.Acts.{waiting_in}
use Rattle.runs.specs.Calls.{Memory, Call, Answer, refusal, Does, refuses, starts, asks, routes}
use Rattle.runs.specs.Calls as calls
use Rattle.law.proofs.Accepting.{start_passed}

module _ {S K L G : Type 0} (k : Kind K L G) (c : Candidates S K L G) (t : Table) where
  pub starts-by : ForwardStar t → {m : Memory L G S} {g : ℕ} {labels : List L} {entries : List ℕ} {bare after : S} → refusal t m (calls.start g) ≡ None
      → labels ≡ replicate (length m.plan.labels) k.start → entries ≡ set (replicate (length m.plan.entries) unlabelled) g own
      → c.emptied m.list bare → (g < 1024 → c.entered bare g labels after)
      → Does k c t m (calls.start g) calls.started (record { started = true; gateway = g; grades = m.grades; plan = plan labels entries; list = after })
  starts-by star {m} {g} {labels} {entries} {bare} {after} accepted is-labels is-entries empties enters =
      let (sized, below) = start_passed t m g accepted in
      let small : g < 1024 = omega (arith, star.few) in
      let entered = rw (is-labels, sized.labels_n) at (enters small) in
      starts accepted (record {
        book = (refl, refl);
        grades = refl;
        plan = rw (is-labels, is-entries, sized.labels_n, sized.entries_n);
        list = (bare, empties, (after, entered, refl));
      })

  pub asks-by : {m : Memory L G S} {v waiting : ℕ} {found : Option (L × ℕ)} → refusal t m (calls.ask v) ≡ None
      → found ≡ known k m.plan v → waiting ≡ waiting_in c m.list → Does k c t m (calls.ask v) (calls.asked found waiting) m
  asks-by accepted is counted = rw (is, counted) (asks accepted)

  -- the links of the path stand in the first places
  pub routes-by : {m : Memory L G S} {v places n : ℕ} {path new : List ℕ} (rest : List ℕ) → refusal t m (calls.route v places) ≡ None
      → n ≡ length (entry_path t m.plan.entries v) → path ≡ entry_path t m.plan.entries v → new ≡ path ++ rest
      → Does k c t m (calls.route v places) (calls.routed (take n new)) m
  routes-by {m} {v} rest accepted many is written = rw (written, is, many, take-append_seam (entry_path t m.plan.entries v) rest) (routes accepted)
