-- Going along a list of links: where it breaks off, and that it is a path where it does not.
use Rattle.std.proofs.Common.{◌≡◌, ℕ, ◌+◌, ◌<◌, ◌≤◌, true, eqb, List, [], ◌∷◌, length, get_or, drop, Some, None, fold, refl, ap, ◌∙◌, subst, inl, inr}
use Rattle.std.proofs.lemmas.List.{drop_more, drop_all}
use Rattle.std.proofs.lemmas.Option.{slice_get_read}
use Rattle.kinds.specs.declared.kind.Kind.{Ghosts}
use Rattle.std.proofs.lemmas.Bool.{cases_lt, cases_eq, lt-ltb, le-ltb, eq-eqb, ne_eqb}
use Rattle.net.specs.Table.{Table, ForwardStar, station_count, link_count, head_at, head_of, tail_at}
use Rattle.net.proofs.Heads.{head-found, head-missing}
use Rattle.net.proofs.Tails.{lands, tail-leaves}
use Rattle.paths.specs.declared.grade.NotPath.{NotPath}
use Rattle.paths.specs.declared.grade.NotPath.TheVariants.{NoLink}
use Rattle.paths.specs.Path.{Leads, PathFrom}
use Rattle.paths.specs.Answer.{breaks, not_path}
use Rattle.paths.specs.Grade.{through, carried_over, path_grade}

module _ {t : Table} (star : ForwardStar t) where
  -- what breaks off nowhere is a path
  pub unbroken-path : (p : List ℕ) (i a : ℕ) → a < station_count t → breaks t i a p ≡ None → PathFrom t a p
  unbroken-path [] i a h e = (a, (h, refl))
  unbroken-path (l ∷ p) i a h e =
      elim (cases_lt l (link_count t)) [
        | inr m ↦ let f = rw (le-ltb l (link_count t) m) at e in absurd cc
        | inl m ↦ elim (cases_eq (tail_at t l) a) [
          | inr d ↦ let f = rw (lt-ltb l (link_count t) m, ne_eqb (tail_at t l) a d) at e in absurd cc
          | inl d ↦
              let f : breaks t (i + 1) (head_at t l) p ≡ None = rw (lt-ltb l (link_count t) m, eq-eqb (tail_at t l) a d) at e in
              let r = unbroken-path p (i + 1) (head_at t l) (lands star l m) f in
              (r.0, (m, d, r.1))
        ]
      ]

  -- and a path breaks off nowhere
  path-unbroken : (p : List ℕ) (i a b : ℕ) → Leads t a p b → breaks t i a p ≡ None
  path-unbroken [] i a b h = refl
  path-unbroken (l ∷ p) i a b h =
      rw (lt-ltb l (link_count t) h.0, eq-eqb (tail_at t l) a h.1) (path-unbroken p (i + 1) (head_at t l) b h.2)

  -- a path begins at a station
  path-begins : (p : List ℕ) (a b : ℕ) → Leads t a p b → a < station_count t
  path-begins [] a b h = h.0
  path-begins (l ∷ p) a b h = subst (λ x. x < station_count t) h.1 (tail-leaves star l h.0).station

  -- what has a reason against it is no path
  pub refused-no-path : (count a : ℕ) (p : List ℕ) (e : NotPath) → not_path t count a p ≡ Some e → count ≡ link_count t → PathFrom t a p → ⊥
  refused-no-path count a p e told n (b, h) =
      let f : not_path t count a p ≡ None =
      rw (eq-eqb count (link_count t) n, lt-ltb a (station_count t) (path-begins p a b h)) (path-unbroken p 0 a b h) in
      cc

  -- with one grade per link and a station to begin at, the reason is where the list breaks off
  pub refused-broken : (count a : ℕ) (p : List ℕ) {e : NotPath} → count ≡ link_count t → a < station_count t → breaks t 0 a p ≡ Some e
      → count ≡ link_count t → PathFrom t a p → ⊥
  refused-broken count a p {e} n h broken =
      refused-no-path count a p e (rw (eq-eqb count (link_count t) n, lt-ltb a (station_count t) h) broken)

-- a path from station `from` has come to station a, and at place i is no link
pub breaks-no-link : (t : Table) (from : ℕ) (way : List ℕ) (i a : ℕ) → i < length way
    → breaks t 0 from way ≡ breaks t i a (drop i way) → None ≡ head_of t (get_or way i 0) → breaks t 0 from way ≡ Some (NoLink i)
breaks-no-link t from way i a here known e =
    known ∙ rw (drop_more way i 0 here, le-ltb (get_or way i 0) (link_count t) (head-missing t (get_or way i 0) e))

-- it leaves the station come to: the way goes on from its head
pub breaks-on : (t : Table) (from : ℕ) (way : List ℕ) (i a : ℕ) → i < length way → breaks t 0 from way ≡ breaks t i a (drop i way)
    → (v : ℕ) → Some v ≡ head_of t (get_or way i 0) → true ≡ eqb (tail_at t (get_or way i 0)) a → breaks t 0 from way ≡ breaks t (i + 1) v (drop (i + 1) way)
breaks-on t from way i a here known v e f =
    let (link, is) = head-found t (get_or way i 0) v e in
    known ∙ rw (drop_more way i 0 here, lt-ltb (get_or way i 0) (link_count t) link, ← f, is)

-- at the end it has broken off nowhere
pub breaks-end : (t : Table) (from : ℕ) (way : List ℕ) (i a : ℕ) → length way ≤ i
    → breaks t 0 from way ≡ breaks t i a (drop i way) → breaks t 0 from way ≡ None
breaks-end t from way i a done known = known ∙ rw (drop_all i way done)

-- the label x before the link at place i becomes y over that link
pub grade-on : {K L G : Type 0} (k : Ghosts K L G) (grades : List G) (way : List ℕ) (i : ℕ) (x y : L) (g : G)
    → i < length way → get_or way i 0 < length grades → g ≡ get_or grades (get_or way i 0) g → y ≡ k.carry x g
    → path_grade k grades way ≡ fold (through k grades) (Some x) (drop i way)
    → path_grade k grades way ≡ fold (through k grades) (Some y) (drop (i + 1) way)
grade-on k grades way i x y g here h e is known =
    let read = slice_get_read grades (length grades) (get_or way i 0) g refl h e in
    known ∙ rw (drop_more way i 0 here, is) (ap (λ o. fold (through k grades) (carried_over k x o) (drop (i + 1) way)) read)
