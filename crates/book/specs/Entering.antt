-- Stations that enter a candidate list one after the other.
use Rattle.std.specs.Prelude.{◌≡◌, ℕ, not, List, map, filter, length}
use Rattle.lists.specs.declared.list.CandidateList.{Ghosts as Candidates}
use Rattle.runs.specs.Acts.{enters, Acts}

-- From list s these stations enter, in their order, and lead to list u; so many of them did not wait in s.
pub record Enters {S K L G : Type 0} (c : Candidates S K L G) (s : S) (stations : List ℕ) (labels : List L) (new : ℕ) (u : S) : Type 0 where
  pub acts : Acts c s (map (λ v. enters v labels) stations) u
  pub fresh : new ≡ length (filter (λ v. not (c.waits s v)) stations)
