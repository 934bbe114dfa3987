-- What the tests of a check tell of lists that pass them.
use Rattle.std.proofs.Common.{◌≡◌, ℕ, ◌<◌, ◌≢◌, true, List, Some, Option, IsSomeAnd}
use Rattle.kinds.specs.declared.kind.Kind.{Ghosts as Kind}
use Rattle.kinds.specs.Order.{AtLeast}
use Rattle.net.specs.Table.{Table, station_count, link_count, head_at, tail_at}
use Rattle.walks.specs.Walk.{own, entry_at, labelled, moves, walk_end}
use Rattle.plans.specs.Plan.{Plan, graded, sized, label_at}
use Rattle.plans.specs.Offers.{offered}

-- station v is labelled, and its label is no worse than this one, which is there
abbrev pub Served : {K L G : Type 0} → Kind K L G → Plan L → ℕ → Option L → Type 0
Served k p v o = (labelled p.entries v ≡ true) × IsSomeAnd o (λ x. AtLeast k (label_at k p v) x)

-- the entry of station v is a link into it from a labelled tail, which offers just its label
abbrev pub HandedOn : {K L G : Type 0} → Kind K L G → Table → List G → Plan L → ℕ → Type 0
HandedOn k t grades p v =
    (moves t p.entries v ≡ true)
    × (labelled p.entries (tail_at t (entry_at p.entries v)) ≡ true)
    × (offered k grades p (tail_at t (entry_at p.entries v)) (entry_at p.entries v) ≡ Some (label_at k p v))

module _ {K L G : Type 0} (k : Kind K L G) (t : Table) (gateway : ℕ) (grades : List G) (p : Plan L) where
  pub record Sound : Type 0 where
    pub graded : graded t grades ≡ true
    pub sized : sized t p ≡ true
    pub station : gateway < station_count t
    pub gate_label : label_at k p gateway ≡ k.start
    pub gate_entry : entry_at p.entries gateway ≡ own
    pub entry : (v : ℕ) → labelled p.entries v ≡ true → v ≢ gateway → HandedOn k t grades p v
    -- the backward walk of a labelled station stops at the gateway
    pub walk : (v : ℕ) → labelled p.entries v ≡ true → walk_end t p.entries (station_count t) v ≡ gateway
    -- what a labelled station offers over a link, the head of the link has or better
    pub link : (l : ℕ) → l < link_count t → labelled p.entries (tail_at t l) ≡ true → Served k p (head_at t l) (offered k grades p (tail_at t l) l)
