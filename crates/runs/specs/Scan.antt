-- Work on a plan, given the stations that the candidate list answers: what is written, and what is asked of the list on the way.
use Rattle.std.specs.Prelude.{ℕ, ◌+◌, ◌-◌, Bool, if◌then◌else◌, not, ◌&&◌, List, [], ◌∷◌, ◌++◌, Some, None, Option, ◌==◌}
use Rattle.std.specs.List.{range_with_len}
use Rattle.kinds.specs.declared.kind.Kind.{Ghosts}
use Rattle.net.specs.Table.{Table, first_link, head_at}
use Rattle.walks.specs.Walk.{labelled}
use Rattle.plans.specs.Offers.{offered, welcomes_offer}
use Rattle.plans.specs.Plan.{Plan, written}
use Rattle.runs.specs.Acts.{Act, enters, gives}

-- the links of station x in their order
abbrev pub links_of : Table → ℕ → List ℕ
links_of t x = range_with_len (first_link t x) (first_link t (x + 1) - first_link t x)

module _ {K L G : Type 0} (k : Ghosts K L G) (t : Table) (gateway : ℕ) (grades : List G) where
  -- the head of link l, which leaves station x, takes what it is offered; links into the gateway are passed over
  abbrev pub takes : Plan L → ℕ → ℕ → Bool
  takes p x l = not (head_at t l == gateway) && welcomes_offer k p (head_at t l) (offered k grades p x l)

  -- the plan once the head of link l has what it is offered
  abbrev pub given : Plan L → ℕ → Option L → Plan L
  given p l None = p
  given p l (Some a) = written p (head_at t l) l a

  -- one link of station x
  abbrev pub after_link : Plan L → ℕ → ℕ → Plan L
  after_link p x l = if takes p x l then given p l (offered k grades p x l) else p

  -- the head enters once its label is written
  abbrev pub link_acts : Plan L → ℕ → ℕ → List (Act L)
  link_acts p x l = if takes p x l then enters (head_at t l) (after_link p x l).labels ∷ [] else []

  -- the links of station x, one after the other
  unfoldable pub after_links : Plan L → ℕ → List ℕ → Plan L
  after_links p x [] = p
  after_links p x (l ∷ ls) = after_links (after_link p x l) x ls

  unfoldable pub links_acts : Plan L → ℕ → List ℕ → List (Act L)
  links_acts p x [] = []
  links_acts p x (l ∷ ls) = link_acts p x l ++ links_acts (after_link p x l) x ls

  -- a station that the list answered: for one that is unlabelled, or not in the net, nothing more is done
  abbrev pub after_pick : Plan L → ℕ → Plan L
  after_pick p x = if labelled p.entries x then after_links p x (links_of t x) else p

  abbrev pub pick_acts : Plan L → ℕ → List (Act L)
  pick_acts p x = if labelled p.entries x then links_acts p x (links_of t x) else []

  -- the stations that the list answered, one after the other
  unfoldable pub after_picks : Plan L → List ℕ → Plan L
  after_picks p [] = p
  after_picks p (x ∷ xs) = after_picks (after_pick p x) xs

  unfoldable pub picks_acts : Plan L → List ℕ → List (Act L)
  picks_acts p [] = []
  picks_acts p (x ∷ xs) = gives p.labels (Some x) ∷ (pick_acts p x ++ picks_acts (after_pick p x) xs)
