-- The home of a station among the chains is its home among the rows.
use Rattle.std.proofs.Common.{◌≡◌, ℕ, is_some, IfSome, Some, None, Option, refl, ap, ◌∙◌}
use Rattle.std.proofs.lemmas.Bool.{eq-eqb}
use Rattle.lists.specs.Stations.{holds}
use Rattle.buckets.specs.Rows.{home_in, in_rows, placed}
use Rattle.buckets.specs.Links.{queues}
use Rattle.buckets.specs.Shelved.{rows_of}
use Rattle.buckets.specs.declared.shelves.Shelves.{Shelves}
use Rattle.buckets.specs.RowsLemmas.{in-at, placed-stays}
use Rattle.buckets.specs.ShelvedLemmas.{in-shelves, queue-same}
use Rattle.buckets.proofs.shelves.Shelves.home.Goals as goal

module _ (s : Shelves) (x : ℕ) where
  held_at : (r : Option ℕ) → home_in (queues s.chains) x r → home_in (rows_of s) x r
  held_at None h = in-shelves s x ∙ h
  held_at (Some b) h = λ k. ap (λ q. holds q x) (queue-same s k) ∙ h k

  waits-at : (r : Option ℕ) → home_in (rows_of s) x r → in_rows (rows_of s) x ≡ is_some r
  waits-at None h = h
  waits-at (Some b) h = in-at (rows_of s) b x (h b ∙ eq-eqb b b refl)

  stays_at : (r : Option ℕ) → home_in (rows_of s) x r → IfSome r (λ b. placed (rows_of s) b x ≡ rows_of s)
  stays_at None h = tt
  stays_at (Some b) h = placed-stays (rows_of s) b x (h b ∙ eq-eqb b b refl)

pub returns : goal.returns
returns c =
    let s = c.args.self.now in
    let x = c.args.station.index in
    let held = held_at s x c.home.result c.home.ensures in
    record { held = held; waits = waits-at s x c.home.result held; stays = stays_at s x c.home.result held }
