-- `simple_paths` holds exactly the simple paths, each once.
use Rattle.std.proofs.Common.{ℕ, ◌<◌, List, [], ◌∷◌, reverse, length, sym, refl, ap, ◌∙◌, subst, inl, inr, arith}
use lib.ListN.{length-reverse}
use Rattle.std.proofs.lemmas.List.{reverse-reverse}
use Rattle.net.specs.Table.{Table, ForwardStar, station_count}
use Rattle.paths.specs.Lists.{In}
use Rattle.paths.specs.Simple.{Simple, up_to, simple_paths, Listed}
use Rattle.paths.proofs.Members.{in_map, map-in, nodup-map}
use Rattle.paths.proofs.Passing.{passing-short, passing-simple, simple-passing}
use Rattle.paths.proofs.Growing.{Full, Only, up_to-full, up_to-only, up_to-once}

-- the listing begins at the empty list
start-full : (t : Table) → Full t 0 ([] ∷ [])
start-full t [] v e h = inl refl
start-full t (l ∷ p) v e h = absurd (omega arith)

start-only : (t : Table) → Only t 0 ([] ∷ [])
start-only t p (inl e) = rw e (refl, (0, (tt, refl)))
start-only t p (inr i) = elim i [ ]

module _ {t : Table} (star : ForwardStar t) where
  abbrev grown : List (List ℕ)
  grown = up_to t (station_count t) ([] ∷ [])

  sound : (p : List ℕ) → In p (simple_paths t) → Simple t p
  sound p i =
      let (q, j, e) = map-in reverse p grown i in
      let (some, (v, h)) = up_to-only t (station_count t) 0 ([] ∷ []) (start-only t) q j in
      subst (Simple t) (sym e) (passing-simple star q v some h)

  complete : (p : List ℕ) → Simple t p → In p (simple_paths t)
  complete p s =
      let q = reverse p in
      let h = simple-passing t p s in
      let some : 0 < length q = omega (arith, length-reverse p, s.some) in
      let few = passing-short star q s.to some h in
      let i = up_to-full t (station_count t) 0 ([] ∷ []) (start-full t) q s.to some (omega arith) h in
      subst (λ x. In x (simple_paths t)) (reverse-reverse p) (in_map reverse q grown i)

  pub listing : Listed t
  listing = record {
    sound = sound;
    complete = complete;
    once = nodup-map reverse (λ x y e. sym (reverse-reverse x) ∙ ap reverse e ∙ reverse-reverse y) grown
        (up_to-once t (station_count t) 0 ([] ∷ []) (start-only t) (λ i. i, tt));
  }
