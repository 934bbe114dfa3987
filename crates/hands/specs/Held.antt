-- What a site holds beside its net, in one kind of grade.
use Rattle.std.specs.Prelude.{ℕ, false, [], replicate, vec_items}
use Rattle.kinds.specs.declared.kind.Kind.{Ghosts}
use Rattle.choice.specs.AnyOrder.{AnyModel, of_first_in}
use Rattle.choice.specs.AnyModels.{any_model}
use Rattle.choice.specs.declared.any.AnyList.{AnyList}
use Rattle.walks.specs.Walk.{unlabelled}
use Rattle.plans.specs.Plan.{plan}
use Rattle.runs.specs.Calls.{Memory}
use Rattle.book.specs.Memories.{memory}
use Rattle.hands.specs.declared.holding.Holding.{Holding}

-- the memory of a book, with the candidate list by its model
abbrev pub HeldBy : Type 0 → Type 0 → Type 0
HeldBy L G = Memory L G (AnyModel L G)

abbrev pub held_by : {K L G : Type 0} {k : Ghosts K L G} → Holding K L G k → HeldBy L G
held_by h = memory h.book (vec_items h.grades) (vec_items h.labels) (vec_items h.entries) (any_model h.list)

-- the same, with the candidate list itself
abbrev pub memory_of : {K L G : Type 0} {k : Ghosts K L G} → Holding K L G k → Memory L G (AnyList K L G k)
memory_of h = memory h.book (vec_items h.grades) (vec_items h.labels) (vec_items h.entries) h.list

-- for so many stations and links: the book is not started, every station has the start label and no entry, every link the grade g, and the list is first-in and empty
abbrev pub new_held : {K L G : Type 0} → Ghosts K L G → G → ℕ → ℕ → HeldBy L G
new_held k g stations links = record {
  started = false;
  gateway = 0;
  grades = replicate links g;
  plan = plan (replicate stations k.start) (replicate stations unlabelled);
  list = of_first_in [];
}
