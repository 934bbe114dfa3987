-- What rows hold, together and each, and what one station less or more makes of them.
use Rattle.std.specs.Prelude.{◌≡◌, ℕ, zero, suc, ◌<◌, ◌≤◌, true, false, not, ◌&&◌, ◌||◌, List, [], ◌∷◌, map, length, replicate, ◌==◌, slice_index_or, slice_set, refl, if◌then◌else◌}
use Rattle.std.proofs.Common.{sym, ap, ◌∙◌, ⊎_elim, arith}
use Rattle.std.proofs.lemmas.List.{get_or-set_same, get_or-set_other, get_or-map, get_or_past, ext_get_or, length-map, length-set}
use Rattle.std.proofs.lemmas.Bool.{cases_eq, cases_Bool, cases_lt, both_ways, eq-eqb, ne_eqb, cond-true, cond-false, or_cases, or_from, or_left, or_right, or_parts}
use Rattle.std.proofs.lemmas.Bool.Decides.{nat_tests}
use Rattle.lists.specs.Stations.{holds, proper}
use Rattle.lists.specs.StationsLemmas.{holds-push}
use Rattle.buckets.specs.Rows.{filled, without, in_rows, join_row, placed}
use Rattle.buckets.specs.Without.{holds-without, without-none, without-top}

-- a write, read at any place
pub get_d_set : {X : Type 0} (xs : List X) (i : ℕ) (v : X) (j : ℕ) (d : X) → i < length xs → slice_index_or (slice_set xs i v) j d ≡ (if j == i then v else slice_index_or xs j d)
get_d_set xs i v j d l =
    ⊎_elim
    (λ (e : j ≡ i). ap (λ q. slice_index_or (slice_set xs i v) q d) e ∙ get_or-set_same xs i v d l ∙ sym (cond-true _ _ _ (eq-eqb j i e)))
    (λ (ne : j ≡ i → ⊥). get_or-set_other xs i j v d ne ∙ sym (cond-false _ _ _ (ne_eqb j i ne)))
    (cases_eq j i)

pub in-at : (rows : List (List ℕ)) (b x : ℕ) → holds (slice_index_or rows b []) x ≡ true → in_rows rows x ≡ true
in-at [] b x h = h
in-at (row ∷ rows) zero x h = or_left _ _ h
in-at (row ∷ rows) (suc b) x h = or_right _ _ (in-at rows b x h)

pub in-none : (rows : List (List ℕ)) (x : ℕ) → ((b : ℕ) → b < length rows → holds (slice_index_or rows b []) x ≡ false) → in_rows rows x ≡ false
in-none [] x out = refl
in-none (row ∷ rows) x out = or_from _ _ (out 0 (omega arith)) (in-none rows x (λ b l. out (suc b) (omega arith)))

pub in-out : (rows : List (List ℕ)) (b x : ℕ) → in_rows rows x ≡ false → holds (slice_index_or rows b []) x ≡ false
in-out rows b x out =
    ⊎_elim (λ (h : holds (slice_index_or rows b []) x ≡ true). absurd (both_ways _ out (in-at rows b x h))) (λ o. o) (cases_Bool (holds (slice_index_or rows b []) x))

pub in_some : (rows : List (List ℕ)) (x : ℕ) → in_rows rows x ≡ true → (b : ℕ) × ((b < length rows) × (holds (slice_index_or rows b []) x ≡ true))
in_some [] x h = absurd (both_ways _ refl h)
in_some (row ∷ rows) x h =
    ⊎_elim
    (λ (here : holds row x ≡ true). (0, (omega arith, here)))
    (λ (later : in_rows rows x ≡ true). let r = in_some rows x later in (suc r.0, (omega arith, r.1.1)))
    (or_cases (holds row x) (in_rows rows x) h)

-- a row that holds a station is one of the rows
pub in-below : (rows : List (List ℕ)) (b x : ℕ) → holds (slice_index_or rows b []) x ≡ true → b < length rows
in-below rows b x h =
    ⊎_elim (λ l. l) (λ (g : length rows ≤ b). absurd (both_ways _ (ap (λ q. holds q x) (get_or_past rows b [] g)) h)) (cases_lt b (length rows))

-- rows that hold x at the same places
pub in-same : (rows others : List (List ℕ)) (x : ℕ) → ((b : ℕ) → holds (slice_index_or rows b []) x ≡ holds (slice_index_or others b []) x) → in_rows rows x ≡ in_rows others x
in-same rows others x e =
    ⊎_elim
    (λ (h : in_rows others x ≡ true). let r = in_some others x h in in-at rows r.0 x (e r.0 ∙ r.1.1) ∙ sym h)
    (λ (out : in_rows others x ≡ false). in-none rows x (λ b l. e b ∙ in-out others b x out) ∙ sym out)
    (cases_Bool (in_rows others x))

pub in-empty : (n x : ℕ) → in_rows (replicate n []) x ≡ false
in-empty zero x = refl
in-empty (suc n) x = in-empty n x

pub in_without : (rows : List (List ℕ)) (x k : ℕ) → in_rows (map (without x) rows) k ≡ (in_rows rows k && not (k == x))
in_without [] x k = refl
in_without (row ∷ rows) x k =
    let here = holds-without row x k in
    let rest = in_without rows x k in
    grind (arith, nat_tests)

pub without_gone : (rows : List (List ℕ)) (x : ℕ) → in_rows (map (without x) rows) x ≡ false
without_gone rows x = let less = in_without rows x x in grind (arith, nat_tests)

-- less a station that they do not hold, rows are the same
pub without-out : (rows : List (List ℕ)) (x : ℕ) → in_rows rows x ≡ false → map (without x) rows ≡ rows
without-out [] x out = refl
without-out (row ∷ rows) x out =
    let parts = or_parts (holds row x) (in_rows rows x) out in
    let here = without-none row x parts.0 in
    let rest = without-out rows x parts.1 in
    cc

pub in-join : (rows : List (List ℕ)) (b x k : ℕ) → b < length rows → in_rows (join_row rows b x) k ≡ (k == x || in_rows rows k)
in-join [] b x k l = absurd (omega arith)
in-join (row ∷ rows) zero x k l = let more = holds-push row x k in grind (arith, nat_tests)
in-join (row ∷ rows) (suc b) x k l = let rest = in-join rows b x k (omega arith) in grind (arith, nat_tests)

-- where a station is placed
pub placed-stays : (rows : List (List ℕ)) (b x : ℕ) → holds (slice_index_or rows b []) x ≡ true → placed rows b x ≡ rows
placed-stays rows b x h = cond-true _ _ _ h

pub placed_moves : (rows : List (List ℕ)) (b x : ℕ) → holds (slice_index_or rows b []) x ≡ false → placed rows b x ≡ join_row (map (without x) rows) b x
placed_moves rows b x o = cond-false _ _ _ o

pub placed-new : (rows : List (List ℕ)) (b x : ℕ) → in_rows rows x ≡ false → placed rows b x ≡ join_row rows b x
placed-new rows b x out = placed_moves rows b x (in-out rows b x out) ∙ ap (λ q. join_row q b x) (without-out rows x out)

pub length-placed : (rows : List (List ℕ)) (b x : ℕ) → length (placed rows b x) ≡ length rows
length-placed rows b x =
    ⊎_elim
    (λ h. ap length (placed-stays rows b x h))
    (λ o. ap length (placed_moves rows b x o) ∙ length-set _ _ _ ∙ length-map rows (without x))
    (cases_Bool (holds (slice_index_or rows b []) x))

pub in-placed : (rows : List (List ℕ)) (b x k : ℕ) → b < length rows → in_rows (placed rows b x) k ≡ (k == x || in_rows rows k)
in-placed rows b x k l =
    ⊎_elim
    (λ (h : holds (slice_index_or rows b []) x ≡ true).
    ap (λ q. in_rows q k) (placed-stays rows b x h) ∙
    ⊎_elim
    (λ (e : k ≡ x). let there : in_rows rows k ≡ true = ap (in_rows rows) e ∙ in-at rows b x h in grind (arith, nat_tests))
    (λ (ne : k ≡ x → ⊥). sym (ap (λ t. t || in_rows rows k) (ne_eqb k x ne)))
    (cases_eq k x))
    (λ (o : holds (slice_index_or rows b []) x ≡ false).
    let more = in-join (map (without x) rows) b x k (simp length-map l) in
    let less = in_without rows x k in
    ap (λ q. in_rows q k) (placed_moves rows b x o) ∙ more ∙ grind (arith, nat_tests))
    (cases_Bool (holds (slice_index_or rows b []) x))

-- each row is proper, and no station is in two
pub record Sound (rows : List (List ℕ)) : Type 0 where
  pub each : (b : ℕ) → proper (slice_index_or rows b []) ≡ true
  pub apart : (b k x : ℕ) → holds (slice_index_or rows b []) x ≡ true → holds (slice_index_or rows k []) x ≡ true → b ≡ k

-- the oldest station of a row leaves it, and with it all rows
pub rest-without : (rows : List (List ℕ)) (b x : ℕ) (ys : List ℕ) → Sound rows → b < length rows → slice_index_or rows b [] ≡ x ∷ ys → map (without x) rows ≡ slice_set rows b ys
rest-without rows b x ys ok l e =
    ext_get_or [] (map (without x) rows) (slice_set rows b ys) (length-map rows (without x) ∙ sym (length-set rows b ys))
    (λ k m. at k (simp length-map at m))
  where
    here : holds (slice_index_or rows b []) x ≡ true
    here = ap (λ q. holds q x) e ∙ or_left _ _ (eq-eqb x x refl)

    at : (k : ℕ) → k < length rows → slice_index_or (map (without x) rows) k [] ≡ slice_index_or (slice_set rows b ys) k []
    at k m =
        get_or-map (without x) rows k [] [] m ∙
        ⊎_elim
        (λ (same : k ≡ b).
        ap (without x) (ap (λ j. slice_index_or rows j []) same ∙ e) ∙ without-top x ys (ap proper (sym e) ∙ ok.each b)
        ∙ sym (ap (λ j. slice_index_or (slice_set rows b ys) j []) same ∙ get_or-set_same rows b ys [] l))
        (λ (ne : k ≡ b → ⊥).
        without-none (slice_index_or rows k []) x (⊎_elim (λ i. absurd (ne (ok.apart k b x i here))) (λ o. o) (cases_Bool (holds (slice_index_or rows k []) x)))
        ∙ sym (get_or-set_other rows b k ys [] ne))
        (cases_eq k b)

pub unfilled : (xs : List ℕ) → filled xs ≡ false → xs ≡ []
unfilled [] e = refl
unfilled (x ∷ xs) e = absurd (both_ways _ e refl)
