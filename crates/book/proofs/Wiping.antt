-- Writing one value at the places of a list that a test marks.
use Rattle.std.proofs.Common.{◌≡◌, ℕ, ◌<◌, ◌≤◌, Bool, if◌then◌else◌, List, map, length, get_or, ◌∙◌, arith}
use Rattle.std.specs.List.{range_with_len}
use Rattle.std.proofs.lemmas.List.FromFn.{fill_by_all}

module _ {A : Type 0} (marked : ℕ → Bool) (d : A) where
  -- it stands at the places below i, and those from i on are as they were
  pub record Wiped (i : ℕ) (old new : List A) : Type 0 where
    pub same : length new ≡ length old
    pub below : (v : ℕ) → v < i → get_or new v d ≡ (if marked v then d else get_or old v d)
    pub ahead : (v : ℕ) → i ≤ v → get_or new v d ≡ get_or old v d

  -- it has reached n, the length
  pub wiped-all : {i : ℕ} {old new : List A} (n : ℕ) → i ≡ n → length old ≡ n → Wiped i old new
      → new ≡ map (λ v. if marked v then d else get_or old v d) (range_with_len 0 n)
  wiped-all {i} {old} {new} n end long all = fill_by_all (λ v. if marked v then d else get_or old v d) new n d (all.same ∙ long) (λ v h. all.below v (omega arith))
