-- The table of links of a net, as a forward star: what its two lists hold, and what they mean.
use Rattle.std.specs.Prelude.{◌≡◌, ℕ, ◌+◌, ◌-◌, ◌<◌, ◌≤◌, if◌then◌else◌, List, length, Some, None, Option, nat_lt, slice_index}
use Rattle.std.specs.Option.{unwrap_or}
use Rattle.net.specs.First.{first_below}

pub record Table : Type 0 where
  pub starts : List ℕ
  pub heads : List ℕ

abbrev pub table : List ℕ → List ℕ → Table
table starts heads = record { starts = starts; heads = heads }

-- there is one start more than there are stations, and one head per link
abbrev pub station_count : Table → ℕ
station_count t = length t.starts - 1

abbrev pub link_count : Table → ℕ
link_count t = length t.heads

-- the first link of station s; those of s end before the first of s + 1
abbrev pub first_link : Table → ℕ → ℕ
first_link t s = slice_index t.starts s

-- the station to which link l leads
abbrev pub head_at : Table → ℕ → ℕ
head_at t l = slice_index t.heads l

-- the station that link l leaves: the first whose links end after it
unfoldable pub tail_at : Table → ℕ → ℕ
tail_at t l = unwrap_or (first_below (λ s. nat_lt l (first_link t (s + 1))) (station_count t)) 0

-- the head and the tail of link l, or none where there is no such link
abbrev pub head_of : Table → ℕ → Option ℕ
head_of t l = if nat_lt l (link_count t) then Some (head_at t l) else None

abbrev pub tail_of : Table → ℕ → Option ℕ
tail_of t l = if nat_lt l (link_count t) then Some (tail_at t l) else None

-- link l is one of station s's
pub record Leaves (t : Table) (l s : ℕ) : Type 0 where
  pub station : s < station_count t
  pub from : first_link t s ≤ l
  pub to : l < first_link t (s + 1)

-- no start is above the next
abbrev pub Rising : List ℕ → Type 0
Rising starts = (k : ℕ) → k + 1 < length starts → slice_index starts k ≤ slice_index starts (k + 1)

-- every head is a station
abbrev pub Within : List ℕ → List ℕ → Type 0
Within starts heads = (k : ℕ) → k < length heads → slice_index heads k + 1 < length starts

-- the forward-star property
pub record ForwardStar (t : Table) : Type 0 where
  pub some : 2 ≤ length t.starts
  pub few : length t.starts ≤ 1025
  pub light : length t.heads ≤ 4096
  pub first : slice_index t.starts 0 ≡ 0
  pub rising : Rising t.starts
  pub last : slice_index t.starts (length t.starts - 1) ≡ length t.heads
  pub within : Within t.starts t.heads
