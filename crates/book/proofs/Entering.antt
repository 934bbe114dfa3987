-- Stations that enter one after the other.
use Rattle.std.proofs.Common.{◌≡◌, ℕ, ◌+◌, ◌<◌, ◌≤◌, Bool, true, false, not, if◌then◌else◌, List, [], ◌∷◌, ◌++◌, map, filter, length, refl, ◌∙◌, arith}
use Rattle.std.specs.List.{range_with_len}
use Rattle.std.proofs.lemmas.Bool.{ne_eqb}
use Rattle.std.proofs.lemmas.List.{map-append, map-id, length-append, append-nil}
use Rattle.std.proofs.lemmas.List.Elements.{filter-append}
use Rattle.std.proofs.lemmas.List.FromFn.{filter_of_map_range_with_len_more}
use Rattle.lists.specs.declared.list.CandidateList.{Ghosts as Candidates}
use Rattle.lists.specs.Meaning.{ListLaws}
use Rattle.runs.specs.Acts.{enters}
use Rattle.book.specs.Entering.{Enters}
use Rattle.runs.proofs.Rows.{acts-append}

-- the numbers below n + 1 that pass
filter-range_more : (p : ℕ → Bool) (n : ℕ) → filter p (range_with_len 0 (n + 1)) ≡ filter p (range_with_len 0 n) ++ (if p n then n ∷ [] else [])
filter-range_more p n = simp map-id at (filter_of_map_range_with_len_more p (λ x. x) 0 n n (omega arith))

module _ {S K L G : Type 0} (c : Candidates S K L G) where
  -- one more, that waits in u as it did in s
  enter_more : {s u w : S} {xs : List ℕ} {x : ℕ} {labels : List L} {n d : ℕ} → c.waits u x ≡ c.waits s x
      → Enters c s xs labels n u → Enters c u (x ∷ []) labels d w → Enters c s (xs ++ x ∷ []) labels (n + d) w
  enter_more {s} {u} {w} {xs} {x} {labels} {n} {d} same before one = record {
    acts = rw map-append (acts-append c s (map (λ v. enters v labels) xs) (enters x labels ∷ []) u w before.acts one.acts);
    fresh = rw (filter-append, length-append, before.fresh, one.fresh, same) refl;
  }

  -- after station x entered, those above it wait that waited before
  enter-above : ListLaws c.waits c.emptied c.entered c.picked → {u w : S} {x : ℕ} {labels : List L} {d : ℕ} → x < 1024
      → Enters c u (x ∷ []) labels d w → (v : ℕ) → x < v → c.waits w v ≡ c.waits u v
  enter-above laws {u} {w} {x} {labels} below one v after =
      let (q, entered, end) = one.acts in
      let added = laws.adds u x labels q below entered v in
      let other = ne_eqb v x (omega arith) in
      rw (end, added, other) refl

  -- at most one is new
  enter-few : {u w : S} {x : ℕ} {labels : List L} {d : ℕ} → Enters c u (x ∷ []) labels d w → d ≤ 1
  enter-few {u} {w} {x} one = rw one.fresh (elim (c.waits u x) as (λ b. length (if not b then x ∷ [] else []) ≤ 1) [ true ↦ omega arith | false ↦ omega arith ])

  -- The stations below i that pass have entered, from list s to list u, and n of them are new; the stations from i on wait as they did in s.
  pub record Passed (s : S) (p : ℕ → Bool) (labels : List L) (i n : ℕ) (u : S) : Type 0 where
    pub entered : Enters c s (filter p (range_with_len 0 i)) labels n u
    pub ahead : (v : ℕ) → i ≤ v → c.waits u v ≡ c.waits s v
    pub few : n ≤ i

  -- station i passes and enters
  pub passed-enters : ListLaws c.waits c.emptied c.entered c.picked → (p : ℕ → Bool) {s u w : S} {labels : List L} {i n d : ℕ} → i < 1024 → true ≡ p i
      → Passed s p labels i n u → Enters c u (i ∷ []) labels d w → Passed s p labels (i + 1) (n + d) w
  passed-enters laws p {s} {u} {w} {labels} {i} {n} {d} below h before one = record {
    entered = rw (filter-range_more, ← h) (enter_more (before.ahead i (omega arith)) before.entered one);
    ahead = λ v after. enter-above laws below one v (omega arith) ∙ before.ahead v (omega arith);
    few = omega (arith, before.few, enter-few one);
  }

  -- it does not pass
  pub passed-over : (p : ℕ → Bool) {s u : S} {labels : List L} {i n : ℕ} → false ≡ p i → Passed s p labels i n u → Passed s p labels (i + 1) n u
  passed-over p {s} {u} {labels} {i} {n} h before = record {
    entered = rw (filter-range_more, ← h, append-nil) before.entered;
    ahead = λ v after. before.ahead v (omega arith);
    few = omega (arith, before.few);
  }
