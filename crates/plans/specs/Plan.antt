-- A plan: a label and an entry for each station.
use Rattle.std.specs.Prelude.{ℕ, Bool, if◌then◌else◌, not, ◌&&◌, List, length, replicate, Some, None, Option, ◌==◌, slice_set, slice_index_or}
use Rattle.kinds.specs.declared.kind.Kind.{Ghosts}
use Rattle.net.specs.Table.{Table, station_count, link_count}
use Rattle.walks.specs.Walk.{unlabelled, own, entry_at, labelled}

pub record Plan (L : Type 0) : Type 0 where
  pub labels : List L
  pub entries : List ℕ

abbrev pub plan : {L : Type 0} → List L → List ℕ → Plan L
plan labels entries = record { labels = labels; entries = entries }

-- station v gets the label a by link l
abbrev pub written : {L : Type 0} → Plan L → ℕ → ℕ → L → Plan L
written p v l a = record { labels = slice_set p.labels v a; entries = slice_set p.entries v l }

-- there is one grade per link
abbrev pub graded : {G : Type 0} → Table → List G → Bool
graded t grades = length grades == link_count t

-- there is one label and one entry per station
abbrev pub sized : {L : Type 0} → Table → Plan L → Bool
sized t p = length p.labels == station_count t && length p.entries == station_count t

module _ {K L G : Type 0} (k : Ghosts K L G) where
  -- the label that stands for station v, and the start label past the end of the list
  abbrev pub label_at : Plan L → ℕ → L
  label_at p v = slice_index_or p.labels v k.start

  -- what is known of station v: its label and its entry, or none
  abbrev pub known : Plan L → ℕ → Option (L × ℕ)
  known p v = if labelled p.entries v then Some (label_at p v, entry_at p.entries v) else None

  -- at least as good and not the same: two labels each at least as good as the other are the same
  abbrev pub better : L → L → Bool
  better a b = k.at_least a b && not (k.at_least b a)

  -- not at least as good
  abbrev pub worse : L → L → Bool
  worse a b = not (k.at_least a b)

  -- the plan of n stations at a start from this gateway
  abbrev pub first_plan : ℕ → ℕ → Plan L
  first_plan n gateway = record { labels = replicate n k.start; entries = slice_set (replicate n unlabelled) gateway own }
