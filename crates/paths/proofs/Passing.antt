-- The test of the listing: a list passes it, with its last link first, where it is a simple path or empty.
use Rattle.std.proofs.Common.{◌≡◌, ℕ, ◌<◌, ◌≤◌, true, false, not, eqb, List, [], ◌∷◌, reverse, length, sym, refl, ap, ◌∙◌, subst, inl, inr, arith}
use lib.ListN.{length-map, length-reverse}
use Rattle.std.proofs.lemmas.List.{reverse-reverse}
use Rattle.std.proofs.lemmas.Bool.{eq-eqb, eqb-true, and_parts, and_from, or_cases, or_left, or_right, not-true, not_from_false, cases_Bool, both_ways}
use Rattle.net.specs.Table.{Table, ForwardStar, station_count, link_count, head_at, tail_at}
use Rattle.net.proofs.Tails.{lands, tail-leaves}
use Rattle.paths.specs.Lists.{In, NoDup}
use Rattle.paths.specs.Path.{stations_on}
use Rattle.paths.specs.Simple.{Simple, meets, simple}
use Rattle.paths.proofs.Members.{few-below, map-in, nodup_reverse}
use Rattle.paths.proofs.Turned.{Comes, met_on, leads-comes, comes-leads, comes-stations}

module _ (t : Table) where
  -- every one of p is a link
  abbrev pub Links : List ℕ → Type 0
  Links [] = Unit {0}
  Links (l ∷ p) = (l < link_count t) × Links p

  -- p, of links, passes the test as a path that ends at v
  abbrev pub Passing : List ℕ → ℕ → Type 0
  Passing p v = Links p × (simple t p v ≡ true)

  links-in : (p : List ℕ) (l : ℕ) → Links p → In l p → l < link_count t
  links-in [] l k i = elim i [ ]
  links-in (m ∷ p) l k (inl e) = subst (λ x. x < link_count t) (sym e) k.0
  links-in (m ∷ p) l k (inr i) = links-in p l k.1 i

  -- what the test says of the last link
  pub passing-parts : (l : ℕ) (p : List ℕ) (v : ℕ) → simple t (l ∷ p) v ≡ true
      → (head_at t l ≡ v) × (meets t v p (tail_at t l) ≡ false) × (simple t p (tail_at t l) ≡ true)
  passing-parts l p v h =
      let a = and_parts (eqb (head_at t l) v) _ h in
      let b = and_parts (not (meets t v p (tail_at t l))) _ a.1 in
      (eqb-true _ _ a.0, not-true _ b.0, b.1)

  in-meets : (x : ℕ) (p : List ℕ) (v : ℕ) → In x (met_on t p v) → meets t x p v ≡ true
  in-meets x [] v (inl e) = eq-eqb x v e
  in-meets x [] v (inr i) = elim i [ ]
  in-meets x (l ∷ p) v (inl e) = or_left _ _ (eq-eqb x v e)
  in-meets x (l ∷ p) v (inr i) = or_right _ _ (in-meets x p (tail_at t l) i)

  meets-in : (x : ℕ) (p : List ℕ) (v : ℕ) → meets t x p v ≡ true → In x (met_on t p v)
  meets-in x [] v h = inl (eqb-true x v h)
  meets-in x (l ∷ p) v h = elim (or_cases _ _ h) [ inl e ↦ inl (eqb-true x v e) | inr k ↦ inr (meets-in x p (tail_at t l) k) ]

  unmet : (x : ℕ) (p : List ℕ) (v : ℕ) → (In x (met_on t p v) → ⊥) → meets t x p v ≡ false
  unmet x p v h = elim (cases_Bool (meets t x p v)) [ inl e ↦ absurd (h (meets-in x p v e)) | inr e ↦ e ]

  -- what passes comes from some station and meets none twice
  passing-comes : (p : List ℕ) (v : ℕ) → Passing p v → (a : ℕ) × Comes t a p v × NoDup (met_on t p v)
  passing-comes [] v h = (v, refl, (λ i. i, tt))
  passing-comes (l ∷ p) v h =
      let c = passing-parts l p v h.1 in
      let r = passing-comes p (tail_at t l) (h.0.1, c.2) in
      (r.0, (h.0.0, c.0, r.1), (λ i. both_ways _ c.1 (in-meets v p (tail_at t l) i), r.2))

  -- and the other way round
  comes-passing : (a : ℕ) (p : List ℕ) (v : ℕ) → Comes t a p v → NoDup (met_on t p v) → Passing p v
  comes-passing a [] v h d = (tt, refl)
  comes-passing a (l ∷ p) v h d =
      let r = comes-passing a p (tail_at t l) h.2 d.1 in
      let m = not_from_false _ (unmet v p (tail_at t l) d.0) in
      ((h.0, r.0), and_from _ _ (eq-eqb _ _ h.1) (and_from _ _ m r.1))

  -- a simple path passes when turned round
  pub simple-passing : (p : List ℕ) (s : Simple t p) → Passing (reverse p) s.to
  simple-passing p s =
      let q = reverse p in
      let k = leads-comes t s.from p s.to s.leads in
      let e : stations_on t s.from p ≡ reverse (met_on t q s.to) =
      ap (stations_on t s.from) (sym (reverse-reverse p)) ∙ comes-stations t s.from q s.to k in
      let d = nodup_reverse (stations_on t s.from p) s.once in
      comes-passing s.from q s.to k (subst (λ xs. NoDup xs) (ap reverse e ∙ reverse-reverse (met_on t q s.to)) d)

module _ {t : Table} (star : ForwardStar t) where
  passing-ends : (p : List ℕ) (v : ℕ) → 0 < length p → Passing t p v → v < station_count t
  passing-ends [] v some h = absurd (omega arith)
  passing-ends (l ∷ p) v some h = subst (λ x. x < station_count t) (passing-parts t l p v h.1).0 (lands star l h.0.0)

  met-station : (p : List ℕ) (v x : ℕ) → 0 < length p → Passing t p v → In x (met_on t p v) → x < station_count t
  met-station p v x some h (inl e) = subst (λ y. y < station_count t) (sym e) (passing-ends p v some h)
  met-station p v x some h (inr i) =
      let r = map-in (tail_at t) x p i in
      subst (λ y. y < station_count t) (sym r.2) (tail-leaves star r.0 (links-in t p r.0 h.0 r.1)).station

  -- a path that passes has no more links than there are stations
  pub passing-short : (p : List ℕ) (v : ℕ) → 0 < length p → Passing t p v → length p ≤ station_count t
  passing-short p v some h =
      let once = (passing-comes t p v h).2 in
      let few = few-below (station_count t) (met_on t p v) once (λ x i. met-station p v x some h i) in
      omega (arith, few, length-map p (tail_at t))

  -- what passes, and is not empty, is a simple path when turned round
  pub passing-simple : (p : List ℕ) (v : ℕ) → 0 < length p → Passing t p v → Simple t (reverse p)
  passing-simple p v some h =
      let r = passing-comes t p v h in
      record {
        some = omega (arith, length-reverse p);
        from = r.0;
        to = v;
        leads = comes-leads t r.0 p v (passing-ends p v some h) r.1;
        once = subst (λ xs. NoDup xs) (sym (comes-stations t r.0 p v r.1)) (nodup_reverse (met_on t p v) r.2);
      }
