-- The faults for which a plan is checked, and the first of them.
use Rattle.std.specs.Prelude.{ℕ, Bool, false, not, ◌&&◌, List, Some, None, Option, ◌==◌, nat_lt}
use Rattle.refusals.specs.declared.check.CheckFault.{CheckFault}
use Rattle.refusals.specs.declared.check.CheckFault.TheVariants as fault
use Rattle.kinds.specs.declared.kind.Kind.{Ghosts}
use Rattle.net.specs.First.{first_below}
use Rattle.net.specs.Table.{Table, station_count, link_count, head_at, tail_at}
use Rattle.walks.specs.Walk.{own, entry_at, labelled, before, passes}
use Rattle.plans.specs.Offers.{offered, welcomes_offer}
use Rattle.plans.specs.Plan.{Plan, graded, sized, label_at}
use Rattle.plans.specs.Tests.{unless, at_first}

module _ {K L G : Type 0} (k : Ghosts K L G) where
  -- two labels are the same: each is at least as good as the other
  abbrev pub same : L → L → Bool
  same a b = k.at_least a b && k.at_least b a

  -- what is offered is this label
  abbrev pub offers_just : Option L → L → Bool
  offers_just None a = false
  offers_just (Some b) a = same b a

  -- the gateway has the start label and its own entry
  abbrev pub rooted : ℕ → Plan L → Bool
  rooted gateway p = same (label_at k p gateway) k.start && entry_at p.entries gateway == own

  -- there is a station x, it is labelled, and its label carried over the entry link of v is the label of v
  abbrev pub handed_by : List G → Plan L → Option ℕ → ℕ → Bool
  handed_by grades p None v = false
  handed_by grades p (Some x) v = labelled p.entries x && offers_just (offered k grades p x (entry_at p.entries v)) (label_at k p v)

-- v is a labelled station whose backward walk misses the gateway
abbrev pub walk_fault : Table → ℕ → List ℕ → ℕ → Bool
walk_fault t gateway entries v = labelled entries v && not (passes t entries gateway v)

-- link l leads from a labelled tail to a head that is unlabelled, or has a worse label than it is offered
abbrev pub link_fault : {K L G : Type 0} → Ghosts K L G → Table → List G → Plan L → ℕ → Bool
link_fault k t grades p l = labelled p.entries (tail_at t l) && welcomes_offer k p (head_at t l) (offered k grades p (tail_at t l) l)

module _ {K L G : Type 0} (k : Ghosts K L G) (t : Table) (gateway : ℕ) (grades : List G) (p : Plan L) where
  -- v is a labelled station, not the gateway, whose entry is no link into it, or whose label is not what a labelled tail carries over that link
  abbrev pub entry_fault : ℕ → Bool
  entry_fault v = labelled p.entries v && (not (v == gateway) && not (handed_by k grades p (before t p.entries v) v))

  -- The first fault, or none. By their numbers: 5, 6, 7; then 16; 17 by station; 18 by station; 19 by link.
  abbrev pub first_fault : Option CheckFault
  first_fault =
      unless (graded t grades) fault.Grades (unless (sized t p) fault.Stations (unless (nat_lt gateway (station_count t)) fault.NoStation
      (unless (rooted k gateway p) fault.Gateway
      (at_first fault.Entry (first_below entry_fault (station_count t))
      (at_first fault.Walk (first_below (walk_fault t gateway p.entries) (station_count t))
      (at_first fault.Link (first_below (link_fault k t grades p) (link_count t)) None))))))
