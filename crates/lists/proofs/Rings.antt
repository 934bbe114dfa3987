-- What a write at the bottom or above the top of a ring makes of what stands in it.
use Rattle.std.proofs.Common.{◌≡◌, ℕ, zero, suc, ◌+◌, ◌-◌, ◌%◌, ◌<◌, ◌≤◌, ◌≢◌, List, [], ◌∷◌, ◌++◌, length, set, refl, ap, ◌∙◌, arith, get_or-set_other, get_or-set_same, slice_index}
use Rattle.lists.specs.Ring.{ring_from}

pub length-ring : (ring : List ℕ) (h n : ℕ) → length (ring_from ring h n) ≡ n
length-ring ring h zero = refl
length-ring ring h (suc n) = ap suc (length-ring ring ((h + 1) % 1024) n)

pub ring-push : (ring : List ℕ) (h n p x : ℕ) → length ring ≡ 1024 → h < 1024 → n < 1024 → p ≡ (h + n) % 1024 → ring_from (set ring p x) h (suc n) ≡ ring_from ring h n ++ x ∷ []
ring-push ring h zero p x len hb nb e =
    let same : p ≡ h = omega arith in
    ap (λ y. y ∷ []) (ap (λ q. slice_index (set ring q x) h) same ∙ get_or-set_same ring h x 0 (omega arith))
ring-push ring h (suc n) p x len hb nb e =
    let apart : h ≢ p = omega arith in
    let kept = get_or-set_other ring p h x 0 apart in
    let rest = ring-push ring ((h + 1) % 1024) n p x len (omega arith) (omega arith) (omega arith) in
    cc

-- a write d places on, where d is n at least, leaves n stations
ring-kept : (ring : List ℕ) (h n p x d : ℕ) → h < 1024 → d < 1024 → p ≡ (h + d) % 1024 → n ≤ d → ring_from (set ring p x) h n ≡ ring_from ring h n
ring-kept ring h zero p x d hb db e nd = refl
ring-kept ring h (suc n) p x d hb db e nd =
    let apart : h ≢ p = omega arith in
    let kept = get_or-set_other ring p h x 0 apart in
    let rest = ring-kept ring ((h + 1) % 1024) n p x (d - 1) (omega arith) (omega arith) (omega arith) (omega arith) in
    cc

pub ring-top : (ring : List ℕ) (h n p x : ℕ) → length ring ≡ 1024 → h < 1024 → n < 1024 → p ≡ (h + 1023) % 1024 → ring_from (set ring p x) p (suc n) ≡ x ∷ ring_from ring h n
ring-top ring h n p x len hb nb e =
    let here = get_or-set_same ring p x 0 (omega arith) in
    let on : (p + 1) % 1024 ≡ h = omega arith in
    let rest = ap (λ q. ring_from (set ring p x) q n) on ∙ ring-kept ring h n p x 1023 hb (omega arith) e (omega arith) in
    cc

pub ring-pop : (ring : List ℕ) (h n : ℕ) → 0 < n → ring_from ring h n ≡ slice_index ring h ∷ ring_from ring ((h + 1) % 1024) (n - 1)
ring-pop ring h zero l = let bad : ⊥ = omega arith in absurd bad
ring-pop ring h (suc n) l = ap (λ m. slice_index ring h ∷ ring_from ring ((h + 1) % 1024) m) (omega arith)

pub ring-at : (ring : List ℕ) (h n i : ℕ) → h < 1024 → i < n → slice_index (ring_from ring h n) i ≡ slice_index ring ((h + i) % 1024)
ring-at ring h zero i hb l = let bad : ⊥ = omega arith in absurd bad
ring-at ring h (suc n) zero hb l = ap (slice_index ring) (omega arith)
ring-at ring h (suc n) (suc i) hb l = ring-at ring ((h + 1) % 1024) n i (omega arith) (omega arith) ∙ ap (slice_index ring) (omega arith)
