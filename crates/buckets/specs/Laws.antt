-- The bucket order keeps the meaning of a list.
use Rattle.std.specs.Prelude.{◌≡◌, ℕ, ◌/◌, ◌<◌, true, List, [], ◌∷◌, length, Some, None, Option, slice_index_or, slice_set, refl}
use Rattle.std.proofs.Common.{sym, ap, ◌∙◌, mod-lt, arith}
use Rattle.std.specs.List.{slice_get}
use Rattle.std.proofs.lemmas.Bool.{both_ways}
use Rattle.lists.specs.Order.{OrderLaws, Takes}
use Rattle.lists.specs.Stations.{holds, top_of, rest_of}
use Rattle.lists.specs.StationsLemmas.{holds-head, holds-below}
use Rattle.buckets.specs.Firsts.{next_from}
use Rattle.buckets.specs.Rows.{filled, in_rows}
use Rattle.buckets.specs.Buckets.{BucketRing, bucket_at, picked_at, rank_of, buckets, ring_of}
use Rattle.buckets.specs.declared.bucket.Bucket.{Bucket}
use Rattle.buckets.specs.FirstsLemmas.{next_from-some, next_from-none}
use Rattle.buckets.specs.RowsLemmas.{in-at, in-none, in_some, in-empty, in_without, in-placed, Sound, rest-without, unfilled}
use Rattle.buckets.specs.ShelvedLemmas.{sound}

-- the rings that a list can have
pub record SoundRing (m : BucketRing) : Type 0 where
  pub rows-sound : Sound m.rows
  pub within : m.last < length m.rows

pub ring-sound : (s : Bucket) → SoundRing (ring_of s)
ring-sound s = record { rows-sound = sound s.shelves; within = s.within }

bucket-below : (m : BucketRing) (r : ℕ) → SoundRing m → bucket_at m r < length m.rows
bucket-below m r ok = mod-lt (r / m.width) (omega (arith, ok.within))

module _ {A : Type 0} (rank : A → ℕ) where
  -- a pick at a bucket takes its oldest station
  taken : (m : BucketRing) (b : ℕ) (row : List ℕ) → SoundRing m → b < length m.rows → slice_index_or m.rows b [] ≡ row → filled row ≡ true → Takes (buckets rank) m (record { rows = slice_set m.rows b (rest_of row); last = b; width = m.width }) (top_of row)
  taken m b [] ok l e f = absurd (both_ways _ refl f)
  taken m b (x ∷ xs) ok l e f =
      (in-at m.rows b x (ap (λ q. holds q x) e ∙ holds-head x xs), λ j. ap (λ q. in_rows q j) (sym (rest-without m.rows b x xs ok.rows-sound l e)) ∙ in_without m.rows x j)

  picks : (m : BucketRing) → SoundRing m → (o : Option ℕ) → next_from (λ b. filled (slice_index_or m.rows b [])) (length m.rows) m.last ≡ o → Takes (buckets rank) m (picked_at m o).1 (picked_at m o).0
  picks m ok None e =
      λ j. let none = in-none m.rows j (λ b l. ap (λ q. holds q j) (unfilled _ (next_from-none _ (length m.rows) m.last e b l))) in (none, none)
  picks m ok (Some b) e =
      let found = next_from-some (λ b. filled (slice_index_or m.rows b [])) (length m.rows) m.last b e (omega (arith, ok.within)) in
      taken m b (slice_index_or m.rows b []) ok found.1 refl found.0

  pub bucket-laws : OrderLaws (buckets rank) SoundRing
  bucket-laws = record {
    below = λ m x ok h. let r = in_some m.rows x h in holds-below (slice_index_or m.rows r.0 []) x (ok.rows-sound.each r.0) r.1.1;
    clears = λ m x. in-empty (length m.rows) x;
    adds = λ m x ls j ok small. in-placed m.rows (bucket_at m (rank_of rank (slice_get ls x))) x j (bucket-below m (rank_of rank (slice_get ls x)) ok);
    takes = λ m ls ok. picks m ok (next_from (λ b. filled (slice_index_or m.rows b [])) (length m.rows) m.last) refl;
  }
