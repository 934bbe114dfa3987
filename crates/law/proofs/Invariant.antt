-- What holds of a started book between its calls, over what the proofs look at of a memory. Declares the invariant.
use Rattle.std.specs.Prelude.{◌≡◌, ℕ, ◌<◌, ◌≤◌, Bool, false, List, [], ◌∷◌, length, Some, Option, ◌≢◌}
use Rattle.std.specs.List.{slice_get}
use Rattle.kinds.specs.declared.kind.Kind.{Ghosts as Kind}
use Rattle.kinds.specs.Order.{AtLeast}
use Rattle.lists.specs.declared.list.CandidateList.{Ghosts as Candidates}
use Rattle.net.specs.Table.{Table, station_count, link_count, head_at, tail_at}
use Rattle.paths.specs.Grade.{carried_over}
use Rattle.paths.specs.Lists.{In}
use Rattle.walks.specs.Walk.{entry_at, unlabelled, own}
use Rattle.plans.specs.Plan.{Plan, label_at}
use Rattle.runs.specs.Scan.{links_of}
use Rattle.runs.specs.Calls.{Memory}

-- what the proofs ask of the net
pub record Fit (t : Table) : Type 0 where
  pub few : link_count t ≤ 4096
  pub small : station_count t ≤ 1024
  pub lands : (l : ℕ) → l < link_count t → head_at t l < station_count t
  pub leaves : (l : ℕ) → l < link_count t → tail_at t l < station_count t
  pub all : (l : ℕ) → l < link_count t → In l (links_of t (tail_at t l))
  pub only : (v : ℕ) → v < station_count t → (l : ℕ) → In l (links_of t v) → (l < link_count t) × (tail_at t l ≡ v)

-- gateway, labels, entries, grades and waiting stations, as functions
pub record View (L G : Type 0) : Type 0 where
  pub gw : ℕ
  pub lab : ℕ → L
  pub ent : ℕ → ℕ
  pub gr : ℕ → Option G
  pub wt : ℕ → Bool

module _ {S K L G : Type 0} (k : Kind K L G) (c : Candidates S K L G) where
  abbrev pub view_of : ℕ → List G → Plan L → S → View L G
  view_of gateway grades p s = record { gw = gateway; lab = label_at k p; ent = entry_at p.entries; gr = slice_get grades; wt = c.waits s }

  abbrev pub view : Memory L G S → View L G
  view m = view_of m.gateway m.grades m.plan m.list

-- one grade per link, one label and one entry per station
pub record Sized {L G S : Type 0} (t : Table) (m : Memory L G S) : Type 0 where
  pub labels_n : length m.plan.labels ≡ station_count t
  pub entries_n : length m.plan.entries ≡ station_count t
  pub grades_m : length m.grades ≡ link_count t

module _ {K L G : Type 0} (k : Kind K L G) (t : Table) where
  abbrev pub Lab : View L G → ℕ → Type 0
  Lab s v = s.ent v ≢ unlabelled

  -- the label of link l's tail carried over the link, or none
  abbrev pub offer : View L G → ℕ → Option L
  offer s l = carried_over k (s.lab (tail_at t l)) (s.gr l)

  -- p, with its last link first, is the way by entries from v back to the gateway; along it no label is better than what its link offers
  abbrev pub Tree : View L G → List ℕ → ℕ → Type 0
  Tree s [] v = v ≡ s.gw
  Tree s (l ∷ p) v = (v ≢ s.gw) × (s.ent v ≡ l) × (l < link_count t) × (head_at t l ≡ v) × ((a : L) × (offer s l ≡ Some a) × AtLeast k a (s.lab v)) × Tree s p (tail_at t l)

  -- the invariant, where the links of `pend` are still to be gone through
  pub record Inv (s : View L G) (pend : List ℕ) : Type 0 where
    pub gate_here : s.gw < station_count t
    pub gate_label : s.lab s.gw ≡ k.start
    pub gate_entry : s.ent s.gw ≡ own
    pub grown : (v : ℕ) → Lab s v → (p : List ℕ) × Tree s p v
    -- what a labelled station that does not wait offers along its links, their heads have or better
    pub settled : (l : ℕ) → l < link_count t → Lab s (tail_at t l) → s.wt (tail_at t l) ≡ false → head_at t l ≢ s.gw → (In l pend → ⊥)
        → (a : L) → offer s l ≡ Some a → Lab s (head_at t l) × AtLeast k (s.lab (head_at t l)) a
