-- Paths written with their last link first, as the listing of simple paths grows them.
use Rattle.std.proofs.Common.{◌≡◌, ℕ, ◌<◌, List, [], ◌∷◌, map, reverse, sym, refl, ap, ◌∙◌, subst}
use mathlib.Core.List.{reverse_aux}
use Rattle.net.specs.Table.{Table, station_count, link_count, head_at, tail_at}
use Rattle.paths.specs.Path.{Leads, stations_on}

module _ (t : Table) where
  -- p, its last link first, leads from station a to station v
  abbrev pub Comes : ℕ → List ℕ → ℕ → Type 0
  Comes a [] v = v ≡ a
  Comes a (l ∷ p) v = (l < link_count t) × (head_at t l ≡ v) × Comes a p (tail_at t l)

  -- the stations that it meets, the last first
  abbrev pub met_on : List ℕ → ℕ → List ℕ
  met_on p v = v ∷ map (tail_at t) p

  -- p follows the turned path q
  comes-onto : (a : ℕ) (p q : List ℕ) (c b : ℕ) → Leads t c p b → Comes a q c → Comes a (reverse_aux p q) b
  comes-onto a [] q c b h k = subst (λ y. Comes a q y) h.1 k
  comes-onto a (l ∷ p) q c b h k =
      comes-onto a p (l ∷ q) (head_at t l) b h.2 (h.0, refl, subst (λ y. Comes a q y) (sym h.1) k)

  pub leads-comes : (a : ℕ) (p : List ℕ) (b : ℕ) → Leads t a p b → Comes a (reverse p) b
  leads-comes a p b h = comes-onto a p [] a b h refl

  -- q follows the turned path p
  leads-onto : (a : ℕ) (p q : List ℕ) (c b : ℕ) → Comes a p c → Leads t c q b → Leads t a (reverse_aux p q) b
  leads-onto a [] q c b h k = subst (λ y. Leads t y q b) h k
  leads-onto a (l ∷ p) q c b h k =
      leads-onto a p (l ∷ q) (tail_at t l) b h.2 (h.0, refl, subst (λ y. Leads t y q b) (sym h.1) k)

  pub comes-leads : (a : ℕ) (p : List ℕ) (b : ℕ) → b < station_count t → Comes a p b → Leads t a (reverse p) b
  comes-leads a p b h k = leads-onto a p [] b b k (h, refl)

  stations-onto : (a : ℕ) (p q : List ℕ) (c : ℕ) → Comes a p c
      → stations_on t a (reverse_aux p q) ≡ reverse_aux (map (tail_at t) p) (stations_on t c q)
  stations-onto a [] q c h = ap (λ x. stations_on t x q) (sym h)
  stations-onto a (l ∷ p) q c h =
      stations-onto a p (l ∷ q) (tail_at t l) h.2
      ∙ ap (λ x. reverse_aux (map (tail_at t) p) (tail_at t l ∷ stations_on t x q)) h.1

  pub comes-stations : (a : ℕ) (p : List ℕ) (c : ℕ) → Comes a p c → stations_on t a (reverse p) ≡ reverse (met_on p c)
  comes-stations a p c h = stations-onto a p [] c h
