-- Acts on a candidate list, one row of them after the other.
use Rattle.std.specs.Prelude.{List, [], ◌∷◌, ◌++◌, refl}
use Rattle.std.proofs.Common.{subst}
use Rattle.lists.specs.declared.list.CandidateList.{Ghosts as Candidates}
use Rattle.runs.specs.Acts.{Act, Acts}

module _ {S K L G : Type 0} (c : Candidates S K L G) where
  -- one row leads to where the next begins
  pub acts-append : (s : S) (first rest : List (Act L)) (q u : S) → Acts c s first q → Acts c q rest u → Acts c s (first ++ rest) u
  acts-append s [] rest q u e h = subst (λ r. Acts c r rest u) e h
  acts-append s (a ∷ first) rest q u (r, step, h) g = (r, step, acts-append r first rest q u h g)

  -- and between two there is a list
  pub acts-parts : (s : S) (first rest : List (Act L)) (u : S) → Acts c s (first ++ rest) u → (q : S) × Acts c s first q × Acts c q rest u
  acts-parts s [] rest u h = (s, refl, h)
  acts-parts s (a ∷ first) rest u (r, step, h) = let (q, begun, ended) = acts-parts r first rest u h in (q, (r, step, begun), ended)
