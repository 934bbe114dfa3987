-- What is asked of a candidate list, one act after the other, and the lists that these lead to.
use Rattle.std.specs.Prelude.{◌≡◌, ℕ, false, List, [], ◌∷◌, Option}
use Rattle.lists.specs.declared.list.CandidateList.{Ghosts as Candidates}
use Rattle.lists.specs.Meaning.{count_below}

-- the list is emptied; a station enters with these labels; a pick with these labels gives this answer
pub data Act (L : Type 0) : Type 0 where
  empties : Act L
  enters : ℕ → List L → Act L
  gives : List L → Option ℕ → Act L

module _ {S K L G : Type 0} (c : Candidates S K L G) where
  -- the step of the list at one act
  abbrev pub Acted : S → Act L → S → Type 0
  Acted s empties u = c.emptied s u
  Acted s (enters x labels) u = c.entered s x labels u
  Acted s (gives labels answer) u = c.picked s labels answer u

  -- from list s the acts lead to list u
  abbrev pub Acts : S → List (Act L) → S → Type 0
  Acts s [] u = u ≡ s
  Acts s (a ∷ rest) u = (q : S) × Acted s a q × Acts q rest u

  -- how many stations wait, and that none does
  abbrev pub waiting_in : S → ℕ
  waiting_in s = count_below (c.waits s) 1024

  abbrev pub AtRest : S → Type 0
  AtRest s = (v : ℕ) → c.waits s v ≡ false
