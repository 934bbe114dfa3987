-- Going along a list of links with a mark at each station met: it is a simple path where every link leads to a station without one.
use Rattle.std.proofs.Common.{◌≡◌, ℕ, zero, suc, ◌+◌, ◌<◌, ◌≤◌, Bool, true, false, not, ◌&&◌, eqb, ltb, List, [], ◌∷◌, map, length, get_or, drop, set, replicate, Some, Decides, sym, refl, ap, ◌∙◌, subst, inl, inr, arith, length-set, get_or-set_other, get_or-set_same}
use lib.ListN.{length-replicate}
use Rattle.std.proofs.lemmas.List.{drop_more, drop_all}
use Rattle.std.proofs.lemmas.Bool.{and_parts, and_from, lt-ltb, ltb-true, eq-eqb, eqb-true, not-true, not_from_false, both_ways}
use Rattle.std.proofs.lemmas.Bool.Decides.{Decides-at}
use Rattle.net.specs.Table.{Table, ForwardStar, Leaves, station_count, link_count, head_at, head_of, tail_at}
use Rattle.net.proofs.Heads.{head-found}
use Rattle.net.proofs.Tails.{lands, tail-is}
use Rattle.paths.specs.Lists.{In, NoDup}
use Rattle.paths.specs.Path.{Leads, PathFrom, stations_on}
use Rattle.paths.specs.Simple.{Simple}

-- none of these stations has a mark
abbrev Fresh : List Bool → List ℕ → Type 0
Fresh m xs = (x : ℕ) → In x xs → get_or m x false ≡ false

module _ (m : List Bool) (a : ℕ) (xs : List ℕ) where
  -- a mark at a station that is none of them leaves them without one
  fresh_set : (In a xs → ⊥) → Fresh m xs → Fresh (set m a true) xs
  fresh_set out fresh x i = get_or-set_other m a x true false (λ e. out (subst (λ y. In y xs) e i)) ∙ fresh x i

  -- and where it does, the station is none of them
  fresh-apart : a < length m → Fresh (set m a true) xs → In a xs → ⊥
  fresh-apart range fresh i = both_ways _ (fresh a i) (get_or-set_same m a true false range)

  -- a station that had no mark before can join them
  fresh-more : a < length m → get_or m a false ≡ false → Fresh (set m a true) xs → Fresh m (a ∷ xs)
  fresh-more range clear fresh x (inl e) = rw e clear
  fresh-more range clear fresh x (inr i) =
      sym (get_or-set_other m a x true false (λ e. fresh-apart range fresh (subst (λ y. In y xs) e i))) ∙ fresh x i

-- each link of p leaves the station come to, a at first, and leads to one without a mark in m, which gets one
abbrev pub onward : Table → List Bool → ℕ → List ℕ → Bool
onward t m a [] = true
onward t m a (l ∷ p) =
    ltb l (link_count t) && (eqb (tail_at t l) a && (not (get_or m (head_at t l) false) && onward t (set m (head_at t l) true) (head_at t l) p))

-- the stations of a path are the first and the heads of its links
stations-heads : (t : Table) (a : ℕ) (p : List ℕ) → stations_on t a p ≡ a ∷ map (head_at t) p
stations-heads t a [] = refl
stations-heads t a (l ∷ p) = ap (λ xs. a ∷ xs) (stations-heads t (head_at t l) p)

-- a path that meets no station twice, and none with a mark, goes onward
leads-onward : (t : Table) (p : List ℕ) (m : List Bool) (a b : ℕ) → Leads t a p b
    → NoDup (map (head_at t) p) → Fresh m (map (head_at t) p) → onward t m a p ≡ true
leads-onward t [] m a b h once fresh = refl
leads-onward t (l ∷ p) m a b h once fresh =
    let v = head_at t l in
    let rest = leads-onward t p (set m v true) v b h.2 once.1 (fresh_set m v _ once.0 (λ x i. fresh x (inr i))) in
    and_from _ _ (lt-ltb _ _ h.0) (and_from _ _ (eq-eqb _ _ h.1) (and_from _ _ (not_from_false _ (fresh v (inl refl))) rest))

module _ {t : Table} (star : ForwardStar t) where
  -- and what goes onward is such a path
  onward-leads : (p : List ℕ) (m : List Bool) (a : ℕ) → station_count t ≤ length m → a < station_count t
      → onward t m a p ≡ true → PathFrom t a p × NoDup (map (head_at t) p) × Fresh m (map (head_at t) p)
  onward-leads [] m a room h e = ((a, (h, refl)), tt, λ x i. elim i [ ])
  onward-leads (l ∷ p) m a room h e =
      let v = head_at t l in
      let x = and_parts (ltb l (link_count t)) _ e in
      let y = and_parts (eqb (tail_at t l) a) _ x.1 in
      let z = and_parts (not (get_or m v false)) _ y.1 in
      let link = ltb-true _ _ x.0 in
      let at = lands star l link in
      let range : v < length m = omega arith in
      let ((b, k), once, fresh) = onward-leads p (set m v true) v (rw length-set room) at z.1 in
      ((b, (link, eqb-true _ _ y.0, k)), (fresh-apart m v _ range fresh, once), fresh-more m v _ range (not-true _ z.0) fresh)

  onward-simple : (way : List ℕ) (m : List Bool) (a : ℕ) → station_count t ≤ length m → a < station_count t → 0 < length way
      → onward t (set m a true) a way ≡ true → Simple t way
  onward-simple way m a room h some e =
      let range : a < length m = omega arith in
      let ((b, k), once, fresh) = onward-leads way (set m a true) a (rw length-set room) h e in
      record { some = some; from = a; to = b; leads = k; once = rw (stations-heads t a way) (fresh-apart m a _ range fresh, once) }

unmarked : (n x : ℕ) → get_or (replicate n false) x false ≡ false
unmarked zero x = refl
unmarked (suc n) zero = refl
unmarked (suc n) (suc x) = unmarked n x

simple-onward : (t : Table) (way : List ℕ) (n a : ℕ) → tail_at t (get_or way 0 0) ≡ a
    → Simple t way → onward t (set (replicate n false) a true) a way ≡ true
simple-onward t [] n a e s = absurd (omega (arith, s.some))
simple-onward t (l ∷ p) n a e s =
    let m = replicate n false in
    let heads = map (head_at t) (l ∷ p) in
    let from : s.from ≡ a = sym s.leads.1 ∙ e in
    let leads = subst (λ x. Leads t x (l ∷ p) s.to) from s.leads in
    let once = subst (λ x. NoDup (x ∷ heads)) from (subst (λ xs. NoDup xs) (stations-heads t s.from (l ∷ p)) s.once) in
    leads-onward t (l ∷ p) (set m a true) a s.to leads once.1 (fresh_set m a heads once.0 (λ x _. unmarked n x))

-- with a mark at the tail of the first link alone, a list goes onward from there where it is a simple path
pub onward-decides : {t : Table} (star : ForwardStar t) (way : List ℕ) (n a : ℕ) → station_count t ≤ n → 0 < length way
    → Leaves t (get_or way 0 0) a → Decides (onward t (set (replicate n false) a true) a way) (Simple t way)
onward-decides {t} star way n a room some w = (
  onward-simple star way (replicate n false) a (rw length-replicate room) w.station some,
  simple-onward t way n a (tail-is star _ a w),
)

-- at the end of the way, what is left goes onward
pub at-end : {P : Type 0} (t : Table) (m : List Bool) (way : List ℕ) (i a : ℕ) → length way ≤ i
    → Decides (onward t m a (drop i way)) P → Decides true P
at-end t m way i a done known = Decides-at _ _ (rw (drop_all i way done)) known

-- one step on, at a station without a mark, decides the same
-- (nothing cites it today; the record of the move names it)
pub go_on : {P : Type 0} (t : Table) (m : List Bool) (way : List ℕ) (i a : ℕ) → Decides (onward t m a (drop i way)) P
    → i < length way → (v : ℕ) → Some v ≡ head_of t (get_or way i 0) → true ≡ eqb (tail_at t (get_or way i 0)) a → get_or m v false ≡ false
    → Decides (onward t (set m v true) v (drop (i + 1) way)) P
go_on t m way i a known here v e f met =
    let (link, is) = head-found t (get_or way i 0) v e in
    Decides-at _ _ (rw (drop_more way i 0 here, lt-ltb (get_or way i 0) (link_count t) link, ← f, ← is, met)) known
