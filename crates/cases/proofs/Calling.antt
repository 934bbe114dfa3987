-- What a refused call and an accepted start did, and that work after such a start is not refused.
use Rattle.std.proofs.Common.{◌≡◌, ℕ, true, replicate, Some, None, refl, ap, ◌∙◌, length-set}
use lib.ListN.{length-replicate}
use Rattle.std.proofs.lemmas.Bool.{and_from, eq-eqb}
use Rattle.refusals.specs.declared.book.BookFault.{BookFault}
use Rattle.kinds.specs.declared.kind.Kind.{Ghosts as Kind}
use Rattle.lists.specs.declared.list.CandidateList.{Ghosts as Candidates}
use Rattle.net.specs.Table.{Table, station_count}
use Rattle.walks.specs.Walk.{unlabelled, own}
use Rattle.plans.specs.Plan.{graded, sized, first_plan}
use Rattle.plans.proofs.Tests.{unless_none, none_unless}
use Rattle.runs.specs.Calls.{Memory, Call, start, work, started, refused, refusal, Does, refuses, starts}

module _ {S K L G : Type 0} (k : Kind K L G) (c : Candidates S K L G) (t : Table) where
  pub refused-does : {m u : Memory L G S} {a : Call G} {f : BookFault} → Does k c t m a (refused f) u → (refusal t m a ≡ Some f) × (u ≡ m)
  refused-does (refuses e) = (e, refl)

  pub start_accepted : {m u : Memory L G S} {g : ℕ} → Does k c t m (start g) started u → refusal t m (start g) ≡ None
  start_accepted (starts e s) = e

  first-sized : (g : ℕ) → sized t (first_plan k (station_count t) g) ≡ true
  first-sized g =
      and_from _ _ (eq-eqb _ _ (length-replicate (station_count t) k.start))
      (eq-eqb _ _ (length-set (replicate (station_count t) unlabelled) g own ∙ length-replicate (station_count t) unlabelled))

  pub work-not_refused : {m u q : Memory L G S} {g n : ℕ} {f : BookFault} → Does k c t m (start g) started u → Does k c t u (work n) (refused f) q → ⊥
  work-not_refused {u = u} {g = g} {n = n} (starts e s) (refuses test) =
      let (each, rest) = unless_none _ _ _ e in
      let fits = ap (sized t) s.plan ∙ first-sized g in
      let accepted : refusal t u (work n) ≡ None = none_unless _ _ _ (ap (graded t) s.grades ∙ each) (none_unless _ _ _ fits (none_unless _ _ _ s.book.0 refl)) in
      absurd (cc (accepted, test))
