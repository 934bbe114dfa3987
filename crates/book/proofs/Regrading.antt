-- An accepted regrade, from what its parts told and left.
use Rattle.std.proofs.Common.{◌≡◌, ℕ, Bool, true, false, not, ◌&&◌, ◌==◌, if◌then◌else◌, [], ◌∷◌, None, set, refl, sym, ◌∙◌}
use Rattle.std.proofs.Math.Path.{fun_ext}
use Rattle.kinds.specs.declared.kind.Kind.{Ghosts as Kind}
use Rattle.net.specs.Table.{Table, station_count, head_at, tail_at}
use Rattle.lists.specs.Meaning.{count_below}
use Rattle.lists.specs.declared.list.CandidateList.{Ghosts as Candidates}
use Rattle.walks.specs.Walk.{entry_at, labelled, crosses}
use Rattle.plans.specs.Plan.{Plan, label_at}
use Rattle.runs.specs.Regrade.{without, woken, spoils}
use Rattle.runs.specs.Calls.{Memory, refusal, Does, regrades}
use Rattle.runs.specs.Calls as calls
use Rattle.book.specs.Entering.{Enters}

module _ {S K L G : Type 0} (k : Kind K L G) (c : Candidates S K L G) (t : Table) (m : Memory L G S) (l : ℕ) (x : G) (accepted : refusal t m (calls.regrade l x) ≡ None)
    (tail head : ℕ) (ends : (tail ≡ tail_at t l) × (head ≡ head_at t l))
    (spoilt : Bool) (test : spoilt ≡ (entry_at m.plan.entries head == l && not (k.at_least (k.carry (label_at k m.plan tail) x) (label_at k m.plan head)))) where
  told : spoilt ≡ spoils k t m.plan l x
  told = rw (ends.0, ends.1) at test

  -- the link does not spoil its head
  pub keeps-by : {new : ℕ} {u : S} → spoilt ≡ false
      → Enters c m.list (if labelled m.plan.entries tail then tail ∷ [] else []) m.plan.labels new u
      → Does k c t m (calls.regrade l x) (calls.regraded 0 new) (record m { grades = set m.grades l x; list = u })
  keeps-by well enters =
      let kept : spoils k t m.plan l x ≡ false = sym told ∙ well in
      let e = ends.0 in
      regrades accepted (record {
        book = (refl, refl);
        grades = refl;
        plan = rw kept;
        list = rw (kept, ← e) enters.acts;
        losses = rw kept;
        fresh = rw (kept, ← e) enters.fresh;
      })

  -- it does, and these are lost
  pub loses-by : {lost : ℕ → Bool} {p : Plan L} {count new : ℕ} {u : S} → spoilt ≡ true → ((v : ℕ) → lost v ≡ crosses t m.plan.entries l v)
      → count_below lost 1024 ≡ count_below (crosses t m.plan.entries l) (station_count t) → count ≡ count_below lost 1024
      → p ≡ without k lost (station_count t) m.plan → Enters c m.list (woken t lost p.entries (station_count t)) p.labels new u
      → Does k c t m (calls.regrade l x) (calls.regraded count new) (record m { grades = set m.grades l x; plan = p; list = u })
  loses-by {lost} {p} bad are many counted cleared enters =
      let spoils : spoils k t m.plan l x ≡ true = sym told ∙ bad in
      let same : lost ≡ crosses t m.plan.entries l = fun_ext are in
      let plan = rw same at cleared in
      let woken = rw (plan, same) at enters in
      regrades accepted (record {
        book = (refl, refl);
        grades = refl;
        plan = rw spoils plan;
        list = rw spoils woken.acts;
        losses = rw spoils (counted ∙ many);
        fresh = rw spoils woken.fresh;
      })
