-- What a candidate list means: a set of waiting stations below 1024, and the steps that change it.
use Rattle.std.specs.Prelude.{◌≡◌, ℕ, zero, suc, ◌+◌, ◌<◌, Bool, true, false, not, ◌&&◌, ◌||◌, List, Some, None, Option, ◌==◌, if◌then◌else◌}

-- how many numbers below n pass the test
unfoldable pub count_below : (ℕ → Bool) → ℕ → ℕ
count_below f zero = 0
count_below f (suc n) = count_below f n + (if f n then 1 else 0)

-- What the steps of every list do to the set. A step relates the list before and the list after; entering also has the
-- station and the labels handed over, and picking the labels and the answer.
pub record ListLaws {S A : Type 0} (waits : S → ℕ → Bool) (emptied : S → S → Type 0) (entered : S → ℕ → List A → S → Type 0) (picked : S → List A → Option ℕ → S → Type 0) : Type 0 where
  pub below : (s : S) (k : ℕ) → waits s k ≡ true → k < 1024
  pub clears : (s t : S) → emptied s t → (k : ℕ) → waits t k ≡ false
  pub adds : (s : S) (x : ℕ) (ls : List A) (t : S) → x < 1024 → entered s x ls t → (k : ℕ) → waits t k ≡ (k == x || waits s k)
  -- the answer of a pick waited, and it alone waits no more
  pub had : (s : S) (ls : List A) (x : ℕ) (t : S) → picked s ls (Some x) t → waits s x ≡ true
  pub takes : (s : S) (ls : List A) (x : ℕ) (t : S) → picked s ls (Some x) t → (k : ℕ) → waits t k ≡ (waits s k && not (k == x))
  -- nothing is answered only where none waits
  pub none_before : (s : S) (ls : List A) (t : S) → picked s ls None t → (k : ℕ) → waits s k ≡ false
  pub none_after : (s : S) (ls : List A) (t : S) → picked s ls None t → (k : ℕ) → waits t k ≡ false
