-- What a call did, from what it answered.
use Rattle.std.proofs.Common.{◌≡◌, ℕ, true, List, Some, None, Ok, Err, IsOkAnd, IsErrAnd, Result}
use Rattle.refusals.specs.declared.book.BookFault.{BookFault}
use Rattle.kinds.specs.declared.kind.Kind.{Ghosts as Kind}
use Rattle.lists.specs.declared.list.CandidateList.{Ghosts as Candidates}
use Rattle.net.specs.Table.{Table}
use Rattle.runs.specs.Calls.{Memory, Call, Answer, work, refused, refusal, Works, Does, refuses, works}
use Rattle.book.specs.declared.book.Book.{Book}
use Rattle.book.specs.Memories.{memory, work_told}
use Rattle.book.specs.Working.{started_at}

module _ {S K L G : Type 0} (k : Kind K L G) (c : Candidates S K L G) (t : Table) where
  -- An error that a test gave, as `?` hands it on: `told` says what the answer is, and here it is the refusal.
  pub does-refused : {A : Type 0} (told : Result A BookFault → Answer L) → ((f : BookFault) → told (Err f) ≡ refused f) → (m : Memory L G S) (a : Call G)
      → (r : Result A BookFault) (e f : BookFault) → IsErrAnd r (λ x. x ≡ e) → e ≡ f → refusal t m a ≡ Some f → Does k c t m a (told r) m
  does-refused told is m a (Ok x) e f h g test = absurd h
  does-refused told is m a (Err x) e f h g test = rw (h, g, is f) (refuses test)

  pub does-worked : (b : Book) (grades : List G) (labels labels' : List L) (entries entries' : List ℕ) (list list' : S) (allowed : ℕ) (r : Result (ℕ × ℕ) BookFault)
      → b.started ≡ true → refusal t (memory b grades labels entries list) (work allowed) ≡ None
      → IsOkAnd r (λ p. Works k c t (memory (started_at b.gateway) grades labels entries list) allowed p.0 p.1 (memory (started_at b.gateway) grades labels' entries' list'))
      → Does k c t (memory b grades labels entries list) (work allowed) (work_told r) (memory b grades labels' entries' list')
  does-worked b grades labels labels' entries entries' list list' allowed (Ok p) e test w = works test (rw e w)
  does-worked b grades labels labels' entries entries' list list' allowed (Err x) e test w = absurd w
