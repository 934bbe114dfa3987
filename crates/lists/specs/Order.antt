-- The order of a candidate list: what its steps do to a model of what it holds.
use Rattle.std.specs.Prelude.{◌≡◌, ℕ, ◌<◌, Bool, true, false, not, ◌&&◌, ◌||◌, List, Some, None, Option, ◌==◌}

-- which stations wait, the model after emptying, after a station below 1024 entered with these labels handed over, and what a pick
-- answers, with the model after it
pub record Order (M A : Type 0) : Type 0 where
  pub waiting : M → ℕ → Bool
  pub cleared : M → M
  pub entering : M → ℕ → List A → M
  pub picking : M → List A → Option ℕ × M

-- the steps of a list that keeps to the order
module _ {S M A : Type 0} (model : S → M) (o : Order M A) where
  abbrev pub waits_by : S → ℕ → Bool
  waits_by s k = o.waiting (model s) k

  abbrev pub emptied_by : S → S → Type 0
  emptied_by s t = model t ≡ o.cleared (model s)

  abbrev pub entered_by : S → ℕ → List A → S → Type 0
  entered_by s x ls t = model t ≡ o.entering (model s) x ls

  abbrev pub picked_by : S → List A → Option ℕ → S → Type 0
  picked_by s ls r t = (r ≡ (o.picking (model s) ls).0) × (model t ≡ (o.picking (model s) ls).1)

module _ {M A : Type 0} (o : Order M A) where
  -- what a pick does to the set, by its answer: m before, n after
  abbrev pub Takes : M → M → Option ℕ → Type 0
  Takes m n None = (k : ℕ) → (o.waiting m k ≡ false) × (o.waiting n k ≡ false)
  Takes m n (Some x) = (o.waiting m x ≡ true) × ((k : ℕ) → o.waiting n k ≡ (o.waiting m k && not (k == x)))

  -- the order keeps the meaning of a list, on the models that a list can have
  pub record OrderLaws (Ok : M → Type 0) : Type 0 where
    pub below : (m : M) (k : ℕ) → Ok m → o.waiting m k ≡ true → k < 1024
    pub clears : (m : M) (k : ℕ) → o.waiting (o.cleared m) k ≡ false
    pub adds : (m : M) (x : ℕ) (ls : List A) (k : ℕ) → Ok m → x < 1024 → o.waiting (o.entering m x ls) k ≡ (k == x || o.waiting m k)
    pub takes : (m : M) (ls : List A) → Ok m → Takes m (o.picking m ls).1 (o.picking m ls).0
