-- The search for the stations whose backward walk comes to a station, its root: what its marks and its queue keep.
use Rattle.std.specs.Prelude.{◌≡◌, ℕ, ◌<◌, ◌≤◌, Bool, true, List, slice_index}
use Rattle.net.specs.Table.{Table}
use Rattle.walks.specs.Walk.{MovesTo}

module _ (t : Table) (entries : List ℕ) where
  -- each station that is marked stands in one of the first places of the queue, and each of these but the first has a walk that moves to one before it
  pub record Reached (marked : ℕ → Bool) (queue : List ℕ) (count : ℕ) : Type 0 where
    pub listed : (v : ℕ) → marked v ≡ true → (i : ℕ) × (i < count) × (slice_index queue i ≡ v)
    pub moved : (i : ℕ) → 0 < i → i < count → (j : ℕ) × (j < i) × MovesTo t entries (slice_index queue i) (slice_index queue j)

-- the marks stay, and so do the first places of the queue
pub record Kept (marked : ℕ → Bool) (queue : List ℕ) (count : ℕ) (marked' : ℕ → Bool) (queue' : List ℕ) (count' : ℕ) : Type 0 where
  pub marks : (v : ℕ) → marked v ≡ true → marked' v ≡ true
  pub places : (i : ℕ) → i < count → slice_index queue' i ≡ slice_index queue i
  pub more : count ≤ count'
