-- A regrade of one link: which stations lose their label, and which stations enter the candidate list.
use Rattle.std.specs.Prelude.{ℕ, Bool, if◌then◌else◌, ◌&&◌, List, [], ◌∷◌, map, filter, ◌==◌}
use Rattle.std.specs.List.{list_any, range_with_len}
use Rattle.kinds.specs.declared.kind.Kind.{Ghosts}
use Rattle.net.specs.Table.{Table, station_count, head_at, tail_at}
use Rattle.lists.specs.Meaning.{count_below}
use Rattle.walks.specs.Walk.{unlabelled, entry_at, labelled, crosses}
use Rattle.runs.specs.Acts.{Act, enters}
use Rattle.plans.specs.Plan.{Plan, label_at, worse}
use Rattle.runs.specs.Scan.{links_of}

-- the plan of n stations in which the lost ones get the start label and no entry
abbrev pub without : {K L G : Type 0} → Ghosts K L G → (ℕ → Bool) → ℕ → Plan L → Plan L
without k lost n p = record {
  labels = map (λ v. if lost v then k.start else label_at k p v) (range_with_len 0 n);
  entries = map (λ v. if lost v then unlabelled else entry_at p.entries v) (range_with_len 0 n);
}

module _ (t : Table) (lost : ℕ → Bool) where
  -- station v has a link to a lost one
  abbrev pub leads_to_lost : ℕ → Bool
  leads_to_lost v = list_any (λ j. lost (head_at t j)) (links_of t v)

  -- it is labelled, and has a link to a lost one
  abbrev pub wakes : List ℕ → ℕ → Bool
  wakes entries v = labelled entries v && leads_to_lost v

  -- the stations below n that are labelled and have a link to a lost one, in rising number
  abbrev pub woken : List ℕ → ℕ → List ℕ
  woken entries n = filter (wakes entries) (range_with_len 0 n)

module _ {K L G : Type 0} (k : Ghosts K L G) (t : Table) where
  -- link l is its head's entry link, and its tail's label carried over the grade x is worse than the head's label
  abbrev pub spoils : Plan L → ℕ → G → Bool
  spoils p l x = entry_at p.entries (head_at t l) == l && worse k (k.carry (label_at k p (tail_at t l)) x) (label_at k p (head_at t l))

  -- the lost ones are those whose backward walk meets link l
  abbrev pub cleared : Plan L → ℕ → Plan L
  cleared p l = without k (crosses t p.entries l) (station_count t) p

  abbrev pub after_regrade : Plan L → ℕ → G → Plan L
  after_regrade p l x = if spoils p l x then cleared p l else p

  -- the stations that enter: where the link spoils its head, the labelled stations with a link to one that lost its label, in rising number; else the tail, if it
  -- is labelled
  abbrev pub entering : Plan L → ℕ → G → List ℕ
  entering p l x =
      if spoils p l x then woken t (crosses t p.entries l) (cleared p l).entries (station_count t)
      else if labelled p.entries (tail_at t l) then tail_at t l ∷ [] else []

  abbrev pub regrade_acts : Plan L → ℕ → G → List (Act L)
  regrade_acts p l x = map (λ v. enters v (after_regrade p l x).labels) (entering p l x)

  -- how many stations lose their label
  abbrev pub lost_by : Plan L → ℕ → G → ℕ
  lost_by p l x = if spoils p l x then count_below (crosses t p.entries l) (station_count t) else 0
