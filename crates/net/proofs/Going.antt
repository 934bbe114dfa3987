-- Going through the links of a station, from its first on.
use Rattle.std.proofs.Common.{◌≡◌, ℕ, ◌+◌, ◌-◌, ◌<◌, ◌≤◌, ◌∙◌, arith}
use Rattle.std.specs.declared.ops.Range.{Range}
use Rattle.net.specs.Table.{Table, ForwardStar, Leaves, station_count, link_count, first_link}
use Rattle.net.proofs.Tails.{first_link-below}

-- range r gives the number l, and is q after it
abbrev pub Gives : Range ℕ → ℕ → Range ℕ → Type 0
Gives r l q = (q.end ≡ r.end) × ((0 < r.end - r.start) × (l ≡ r.start) × (q.start ≡ r.start + 1))

-- the links of station s that are left are those of the range r
pub record Going (t : Table) (s : ℕ) (r : Range ℕ) : Type 0 where
  pub station : s < station_count t
  pub from : first_link t s ≤ r.start
  pub within : r.start ≤ r.end
  pub to : r.end ≡ first_link t (s + 1)

module _ {t : Table} (star : ForwardStar t) {s : ℕ} {r : Range ℕ} where
  -- the next one is a link of the station
  pub going-leaves : {l : ℕ} {q : Range ℕ} → Gives r l q → Going t s r → Leaves t l s
  going-leaves gives g = record { station = g.station; from = omega (arith, g.from, gives); to = omega (arith, g.to, gives) }

  -- and one of the net
  pub going-below : {l : ℕ} {q : Range ℕ} → Gives r l q → Going t s r → l < link_count t
  going-below gives g = omega (arith, g.to, gives, first_link-below star (s + 1) (omega (arith, g.station)))

  -- after it
  pub going-next : {l : ℕ} {q : Range ℕ} → Gives r l q → Going t s r → Going t s q
  going-next gives g = record { station = g.station; from = omega (arith, g.from, gives); within = omega (arith, gives); to = gives.0 ∙ g.to }
