-- Whether links improve a label: one that a station offers, and all those of a station without a label.
use Rattle.std.proofs.Common.{◌≡◌, ℕ, ◌+◌, ◌<◌, true, false, List, length, get_or, refl, inl, inr}
use Rattle.std.proofs.lemmas.Bool.{cases_lt}
use Rattle.kinds.specs.declared.kind.Kind.{Ghosts as Kind}
use Rattle.net.specs.Table.{Table, ForwardStar, Leaves, station_count, first_link, head_at}
use Rattle.net.proofs.Firsts.{NoneBelow}
use Rattle.net.proofs.Tails.{tail-is}
use Rattle.walks.specs.Walk.{labelled}
use Rattle.plans.specs.Faults.{link_fault}
use Rattle.plans.specs.Offers.{welcomes}
use Rattle.plans.specs.Plan.{Plan, label_at}
use Rattle.plans.proofs.Offering.{offered-is}

module _ {K L G : Type 0} (k : Kind K L G) {t : Table} (star : ForwardStar t) (grades : List G) (p : Plan L) (s : ℕ) where
  -- station s offers its label, carried over link l
  pub improves : (l : ℕ) (a : L) (g : G) (new : L) → Leaves t l s → labelled p.entries s ≡ true → a ≡ label_at k p s → l < length grades → g ≡ get_or grades l g → new ≡ k.carry a g
      → link_fault k t grades p l ≡ welcomes k p (head_at t l) new
  improves l a g new leaves e label below grade made =
      rw (tail-is star l s leaves, e, offered-is k grades p s l a g new label below grade made)

  -- it has no label to offer
  pub silent : s < station_count t → labelled p.entries s ≡ false → NoneBelow (link_fault k t grades p) (first_link t s) → NoneBelow (link_fault k t grades p) (first_link t (s + 1))
  silent station e before = λ l below. elim (cases_lt l (first_link t s)) [
    | inl early ↦ before l early
    | inr own ↦ (let leaves : Leaves t l s = record { station = station; from = own; to = below } in rw (tail-is star l s leaves, e) refl)
  ]
