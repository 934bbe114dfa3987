-- A candidate list that is its own model.
use Rattle.lists.specs.Order.{Order, waits_by, emptied_by, entered_by, picked_by}
use Rattle.lists.specs.declared.list.CandidateList.{Ghosts as Candidates}

-- the candidate list that keeps to this order and is its own model
abbrev pub by_order : {M K L G : Type 0} → Order M L → Candidates M K L G
by_order o = record {
  waits = waits_by (λ m. m) o;
  emptied = emptied_by (λ m. m) o;
  entered = entered_by (λ m. m) o;
  picked = picked_by (λ m. m) o;
}
