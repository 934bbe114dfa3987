-- Chains whose ends are each tied to itself, and which no station is in.
use Rattle.std.proofs.Common.{◌≡◌, ℕ, ◌+◌, ◌<◌, ◌≤◌, List, [], is_some, Some, None, Option, slice_index, slice_index_or, replicate, sym, refl, ap, ◌∙◌, ⊎_elim, arith}
use Rattle.std.specs.Option.{ForSome}
use Rattle.std.proofs.lemmas.List.{get_or-replicate, get_or_past, length-replicate}
use Rattle.std.proofs.lemmas.Bool.{cases_lt}
use Rattle.lists.specs.Meaning.{count_below}
use Rattle.lists.specs.Counts.{count_none}
use Rattle.buckets.specs.Ties.{is_home}
use Rattle.buckets.specs.LinksLemmas.{Settled, settled}

-- every station in no chain
abbrev pub no_homes : List (Option ℕ)
no_homes = replicate 1024 None

homeless : (k : ℕ) → slice_index_or no_homes k None ≡ None
homeless k = ⊎_elim (λ l. get_or-replicate 1024 k None None l) (λ (g : 1024 ≤ k). get_or_past no_homes k None (omega (arith, length-replicate {A = Option ℕ} 1024 None))) (cases_lt k 1024)

pub fresh-settled : (next prev : List ℕ) → ((k : ℕ) → 1024 ≤ k → k < 1088 → (slice_index next k ≡ k) × (slice_index prev k ≡ k)) → Settled next prev no_homes (λ b. [])
fresh-settled next prev ties =
    settled next prev no_homes (λ b. [])
    (λ b l. ties (1024 + b) (omega arith) (omega arith))
    (λ b l. refl)
    (λ b l k. sym (ap (λ o. is_home o b) (homeless k)))

pub fresh-within : (k : ℕ) → ForSome (slice_index_or no_homes k None) (λ b. b < 64)
fresh-within k b e = let never : ◌≡◌ {A = Option ℕ} None (Some b) = sym (homeless k) ∙ e in cc

pub fresh-counts : 0 ≡ count_below (λ k. is_some (slice_index_or no_homes k None)) 1024
fresh-counts = sym (count_none (λ k. is_some (slice_index_or no_homes k None)) 1024 (λ k. ap is_some (homeless k)))
