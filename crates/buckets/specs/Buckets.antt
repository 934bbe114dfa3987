-- The order of the bucket list: a station waits in the bucket of its label's rank, behind those that came there before it, and a pick
-- searches the buckets upwards and round, from the bucket of the last pick on.
use Rattle.std.specs.Prelude.{◌≡◌, ℕ, ◌+◌, ◌-◌, ◌/◌, ◌%◌, ◌<◌, ◌≤◌, Bool, true, ◌||◌, List, [], length, replicate, Some, None, Option, ◌==◌, nat_lt, nat_le, slice_index_or, slice_set, if◌then◌else◌}
use Rattle.std.specs.Option.{option_map_or}
use Rattle.std.specs.List.{slice_get}
use Rattle.lists.specs.Order.{Order}
use Rattle.lists.specs.Stations.{holds, top_of, rest_of}
use Rattle.buckets.specs.Firsts.{next_from}
use Rattle.buckets.specs.Rows.{filled, in_rows, placed}
use Rattle.buckets.specs.Shelved.{rows_of}
use Rattle.buckets.specs.declared.bucket.Bucket.{Bucket}

-- how many buckets there are
abbrev pub bucket_count : ℕ → ℕ → ℕ
bucket_count width span = span / width + 1

abbrev pub buckets_refused : ℕ → ℕ → Bool
buckets_refused width span = width == 0 || nat_lt 64 (bucket_count width span)

pub record BucketRing : Type 0 where
  -- each bucket's stations, the oldest first
  pub rows : List (List ℕ)
  -- the bucket of the last pick, 0 after emptying
  pub last : ℕ
  -- how many ranks one bucket takes
  pub width : ℕ

abbrev pub ring_of : Bucket → BucketRing
ring_of s = record { rows = rows_of s.shelves; last = s.last; width = s.width }

abbrev pub no_rows : ℕ → ℕ → BucketRing
no_rows width count = record { rows = replicate count []; last = 0; width = width }

-- the bucket of a rank
abbrev pub bucket_at : BucketRing → ℕ → ℕ
bucket_at m rank = rank / m.width % length m.rows

-- what a pick answers that found this bucket, and the ring after it
abbrev pub picked_at : BucketRing → Option ℕ → Option ℕ × BucketRing
picked_at m None = (None, m)
picked_at m (Some b) = (top_of (slice_index_or m.rows b []), record { rows = slice_set m.rows b (rest_of (slice_index_or m.rows b [])); last = b; width = m.width })

module _ {A : Type 0} (rank : A → ℕ) where
  -- a label that was not handed over has rank 0
  abbrev pub rank_of : Option A → ℕ
  rank_of label = option_map_or rank label 0

  abbrev pub buckets : Order BucketRing A
  buckets = record {
    waiting = λ m x. in_rows m.rows x;
    cleared = λ m. no_rows m.width (length m.rows);
    entering = λ m x ls. record { rows = placed m.rows (bucket_at m (rank_of (slice_get ls x))) x; last = m.last; width = m.width };
    picking = λ m ls. picked_at m (next_from (λ b. filled (slice_index_or m.rows b [])) (length m.rows) m.last);
  }

-- how many buckets the search goes up, round at the last of them, from one bucket to another
abbrev pub way_up : ℕ → ℕ → ℕ → ℕ
way_up count from to = if nat_le from to then to - from else to + count - from

-- The station x is the oldest of its bucket, and no waiting station is nearer on the way up from the bucket of the last pick; the next search begins at its bucket.
pub record Nearest (m : BucketRing) (x : ℕ) (n : BucketRing) : Type 0 where
  pub bucket : ℕ
  pub within : bucket < length m.rows
  pub oldest : top_of (slice_index_or m.rows bucket []) ≡ Some x
  pub nearest : (c y : ℕ) → c < length m.rows → holds (slice_index_or m.rows c []) y ≡ true → way_up (length m.rows) m.last bucket ≤ way_up (length m.rows) m.last c
  pub next : n.last ≡ bucket

-- A pick answers the nearest station on the way up.
module _ {A : Type 0} (rank : A → ℕ) where
  abbrev pub NearestFirst : Type 0
  NearestFirst = (m : BucketRing) (ls : List A) (x : ℕ) → m.last < length m.rows → ((buckets rank).picking m ls).0 ≡ Some x → Nearest m x ((buckets rank).picking m ls).1
