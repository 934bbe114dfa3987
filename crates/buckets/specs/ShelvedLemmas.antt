-- What shelves hold, and what a station more or less in their chains makes of their rows and marks.
use Rattle.std.specs.Prelude.{◌≡◌, ℕ, ◌<◌, ◌≤◌, true, false, not, ◌&&◌, ◌||◌, List, [], ◌∷◌, ◌++◌, map, length, replicate, Option, ◌==◌, ◌≢◌, slice_index_or, if◌then◌else◌}
use Rattle.std.proofs.Common.{sym, ap, ◌∙◌, ⊎_elim, arith}
use Rattle.std.specs.List.{range_with_len}
use Rattle.std.proofs.lemmas.List.{get_or_past, get_or-map, get_or-replicate, get_or-set_same, get_or-set_other, length-map, length-replicate, length-set}
use Rattle.std.proofs.lemmas.List.FromFn.{get_or-map-range_with_len, length-map-range_with_len, fill_by_all}
use Rattle.std.proofs.lemmas.Bool.{cases_eq, cases_lt, eq-eqb, ne_eqb, cond-true, cond-false, or_left, and_right}
use Rattle.std.proofs.lemmas.Bool.Decides.{nat_tests}
use Rattle.lists.specs.Stations.{holds, proper, top_of}
use Rattle.buckets.specs.Firsts.{next_from}
use Rattle.buckets.specs.Rows.{filled, without, in_rows, join_row}
use Rattle.buckets.specs.Links.{row, queues}
use Rattle.buckets.specs.Sets.{member}
use Rattle.buckets.specs.Shelved.{rows_of}
use Rattle.buckets.specs.declared.chains.Chains.{Chains}
use Rattle.buckets.specs.declared.shelves.Shelves.{Shelves}
use Rattle.buckets.specs.Without.{without-none, push-filled, held-filled}
use Rattle.buckets.specs.RowsLemmas.{in-below, in-same, Sound, unfilled}
use Rattle.buckets.specs.LinksLemmas.{queue-at, queues-many, rows_apart, rows_other}
use Rattle.buckets.specs.FirstsLemmas.{next_from-same, next_from-cut}

rows_are : (f : ℕ → List ℕ) (rows : List (List ℕ)) (n : ℕ) → length rows ≡ n → ((k : ℕ) → k < n → f k ≡ slice_index_or rows k []) → map f (range_with_len 0 n) ≡ rows
rows_are f rows n l e = sym (fill_by_all f rows n [] l (λ k h. sym (e k h)))

pub empty-rows : (f : ℕ → List ℕ) (n : ℕ) → ((k : ℕ) → k < n → f k ≡ []) → map f (range_with_len 0 n) ≡ replicate n []
empty-rows f n e = rows_are f (replicate n []) n (length-replicate n []) (λ k l. e k l ∙ sym (get_or-replicate n k [] [] l))

module _ (s : Shelves) where
  pub rows-many : length (rows_of s) ≡ s.count
  unfolding rows_of
  rows-many = length-map-range_with_len (row s.chains) 0 s.count

  pub row_at : (k : ℕ) → k < s.count → slice_index_or (rows_of s) k [] ≡ row s.chains k
  unfolding rows_of
  row_at k l = get_or-map-range_with_len (row s.chains) 0 s.count k k [] l (omega arith)

  pub held_below : (b x : ℕ) → holds (slice_index_or (rows_of s) b []) x ≡ true → b < s.count
  held_below b x h = omega (arith, in-below (rows_of s) b x h, rows-many)

  -- the rows hold what the chains do, since those from `count` on are empty
  pub queue-same : (k : ℕ) → slice_index_or (rows_of s) k [] ≡ slice_index_or (queues s.chains) k []
  queue-same k =
      ⊎_elim
      (λ (l : k < s.count). row_at k l ∙ sym (queue-at s.chains k (omega (arith, s.fits))))
      (λ (g : s.count ≤ k). get_or_past (rows_of s) k [] (omega (arith, rows-many)) ∙ sym (past g))
      (cases_lt k s.count)
    where
      past : s.count ≤ k → slice_index_or (queues s.chains) k [] ≡ []
      past g =
          ⊎_elim
          (λ (l : k < 64). queue-at s.chains k l ∙ unfilled _ (s.beyond k g l))
          (λ (h : 64 ≤ k). get_or_past (queues s.chains) k [] (omega (arith, queues-many s.chains)))
          (cases_lt k 64)

  -- the oldest station of a row
  pub top-at : (b : ℕ) (r : Option ℕ) → b < length (rows_of s) → r ≡ top_of (row s.chains b) → r ≡ top_of (slice_index_or (rows_of s) b [])
  top-at b r l e = e ∙ ap top_of (sym (row_at b (omega (arith, rows-many))))

  pub in-shelves : (x : ℕ) → in_rows (rows_of s) x ≡ in_rows (queues s.chains) x
  in-shelves x = in-same (rows_of s) (queues s.chains) x (λ k. ap (λ q. holds q x) (queue-same k))

  pub sound : Sound (rows_of s)
  sound = record {
    each = λ b.
        ⊎_elim
        (λ (l : b < s.count). ap proper (row_at b l) ∙ s.chains.once b (omega (arith, s.fits)))
        (λ (g : s.count ≤ b). ap proper (get_or_past (rows_of s) b [] (omega (arith, rows-many))))
        (cases_lt b s.count);
    apart = λ b k x i j.
        let l = held_below b x i in
        let m = held_below k x j in
        rows_apart s.chains b k x (omega (arith, s.fits)) (omega (arith, s.fits)) (ap (λ q. holds q x) (sym (row_at b l)) ∙ i) (ap (λ q. holds q x) (sym (row_at k m)) ∙ j);
  }

  -- the search among the marks is the search among the rows
  pub next_row : (at : ℕ) → at < length (rows_of s) → next_from (member s.busy) 64 at ≡ next_from (λ b. filled (slice_index_or (rows_of s) b [])) (length (rows_of s)) at
  next_row at l =
      next_from-same (member s.busy) (λ b. filled (slice_index_or (rows_of s) b [])) 64 at (λ k m. s.marks k m ∙ ap filled (sym (queue-at s.chains k m) ∙ sym (queue-same k)))
      ∙ next_from-cut (λ b. filled (slice_index_or (rows_of s) b [])) (length (rows_of s)) 64 at (omega (arith, rows-many, s.fits)) l (λ k g m. ap filled (get_or_past (rows_of s) k [] g))

-- the station x is one more in the chain b
module _ (s : Shelves) (t : Chains) (b x : ℕ) (bb : b < length (rows_of s)) (e : (k : ℕ) → k < 64 → row t k ≡ (if k == b then row s.chains k ++ x ∷ [] else row s.chains k)) where
  joined : (k : ℕ) → k < 64 → k ≡ b → row t k ≡ row s.chains k ++ x ∷ []
  joined k l i = e k l ∙ cond-true _ _ _ (eq-eqb k b i)

  kept : (k : ℕ) → k < 64 → (k ≢ b) → row t k ≡ row s.chains k
  kept k l ne = e k l ∙ cond-false _ _ _ (ne_eqb k b ne)

  pub put-rows : map (row t) (range_with_len 0 s.count) ≡ join_row (rows_of s) b x
  put-rows =
      rows_are (row t) (join_row (rows_of s) b x) s.count (length-set (rows_of s) b (slice_index_or (rows_of s) b [] ++ x ∷ []) ∙ rows-many s)
      (λ k l.
      ⊎_elim
      (λ (i : k ≡ b).
      joined k (omega (arith, s.fits)) i ∙ ap (λ q. q ++ x ∷ []) (sym (row_at s k l) ∙ ap (λ j. slice_index_or (rows_of s) j []) i)
      ∙ sym (ap (λ j. slice_index_or (join_row (rows_of s) b x) j []) i ∙ get_or-set_same (rows_of s) b (slice_index_or (rows_of s) b [] ++ x ∷ []) [] bb))
      (λ (ne : k ≡ b → ⊥). kept k (omega (arith, s.fits)) ne ∙ sym (row_at s k l) ∙ sym (get_or-set_other (rows_of s) b k (slice_index_or (rows_of s) b [] ++ x ∷ []) [] ne))
      (cases_eq k b))

  pub put-marks : (k : ℕ) → k < 64 → (k == b || member s.busy k) ≡ filled (row t k)
  put-marks k l =
      ⊎_elim
      (λ (i : k ≡ b). or_left _ _ (eq-eqb k b i) ∙ sym (ap filled (joined k l i) ∙ push-filled (row s.chains k) x))
      (λ (ne : k ≡ b → ⊥). ap (λ q. q || member s.busy k) (ne_eqb k b ne) ∙ s.marks k l ∙ sym (ap filled (kept k l ne)))
      (cases_eq k b)

  pub put-beyond : (k : ℕ) → s.count ≤ k → k < 64 → filled (row t k) ≡ false
  put-beyond k g l = ap filled (kept k l (omega (arith, rows-many s))) ∙ s.beyond k g l

-- the station x, of the row b, is in no chain any more
module _ (s : Shelves) (t : Chains) (b x : ℕ) (held : holds (slice_index_or (rows_of s) b []) x ≡ true) (e : (k : ℕ) → k < 64 → row t k ≡ without x (row s.chains k)) where
  in-chain : holds (row s.chains b) x ≡ true
  in-chain = ap (λ q. holds q x) (sym (row_at s b (held_below s b x held))) ∙ held

  pub left-rows : map (row t) (range_with_len 0 s.count) ≡ map (without x) (rows_of s)
  left-rows =
      rows_are (row t) (map (without x) (rows_of s)) s.count (length-map (rows_of s) (without x) ∙ rows-many s)
      (λ k l. e k (omega (arith, s.fits)) ∙ ap (without x) (sym (row_at s k l)) ∙ sym (get_or-map (without x) (rows_of s) k [] [] (omega (arith, rows-many s))))

  others : (k : ℕ) → k < 64 → (k ≢ b) → row t k ≡ row s.chains k
  others k l ne = e k l ∙ without-none (row s.chains k) x (rows_other s.chains b k x (omega (arith, held_below s b x held, s.fits)) l ne in-chain)

  -- the row b is empty now, or not
  pub left-marks-off : filled (row t b) ≡ false → (k : ℕ) → k < 64 → (member s.busy k && not (k == b)) ≡ filled (row t k)
  left-marks-off off k l =
      ⊎_elim
      (λ (i : k ≡ b). and_right _ _ (ap not (eq-eqb k b i)) ∙ sym (ap (λ j. filled (row t j)) i ∙ off))
      (λ (ne : k ≡ b → ⊥). let apart = ne_eqb k b ne in let was : member s.busy k ≡ filled (row t k) = s.marks k l ∙ sym (ap filled (others k l ne)) in grind (arith, nat_tests))
      (cases_eq k b)

  pub left-marks-on : filled (row t b) ≡ true → (k : ℕ) → k < 64 → member s.busy k ≡ filled (row t k)
  left-marks-on on k l =
      s.marks k l ∙
      ⊎_elim
      (λ (i : k ≡ b). ap (λ j. filled (row s.chains j)) i ∙ held-filled _ x in-chain ∙ sym (ap (λ j. filled (row t j)) i ∙ on))
      (λ (ne : k ≡ b → ⊥). sym (ap filled (others k l ne)))
      (cases_eq k b)

  pub left-beyond : (k : ℕ) → s.count ≤ k → k < 64 → filled (row t k) ≡ false
  left-beyond k g l = ap filled (others k l (omega (arith, held_below s b x held))) ∙ s.beyond k g l
