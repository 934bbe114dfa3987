-- A tree of best paths is sound: each fact that the tests ask for follows from the paths.
use Rattle.std.proofs.Common.{◌≡◌, ℕ, ◌<◌, ◌≢◌, true, List, ◌∷◌, reverse, Some, sym, refl, ap, ◌∙◌, subst}
use Rattle.std.proofs.lemmas.List.{reverse-reverse}
use Rattle.std.proofs.lemmas.Option.{same_Some}
use Rattle.kinds.specs.declared.kind.Kind.{Ghosts as Kind}
use Rattle.net.specs.Table.{Table, ForwardStar, station_count, link_count, head_at, tail_at}
use Rattle.net.proofs.Tails.{lands, tail-leaves}
use Rattle.paths.specs.Grade.{through}
use Rattle.paths.proofs.Turned.{Comes, leads-comes, comes-leads}
use Rattle.walks.specs.Walk.{entry_at, labelled, walk}
use Rattle.walks.proofs.Walking.{walk_stops}
use Rattle.plans.specs.Plan.{Plan, label_at}
use Rattle.plans.specs.Offers.{offered}
use Rattle.plans.specs.Best.{BestPaths, BestTree}
use Rattle.plans.proofs.Labelled.{own_labelled, own_stops}
use Rattle.plans.proofs.Grades.{turned_grade, grade-reverse}
use Rattle.plans.proofs.Homeward.{home-end, home-moves, home-first}
use Rattle.plans.proofs.Sound.{Served, HandedOn, Sound}

module _ {K L G : Type 0} (k : Kind K L G) {t : Table} (star : ForwardStar t) {gateway : ℕ} {grades : List G} {p : Plan L}
    (b : BestPaths k t gateway grades p) where
  -- the walk of a station, in as many moves as there are stations
  abbrev back : ℕ → List ℕ
  back v = walk t p.entries (station_count t) v

  back-comes : (v : ℕ) → labelled p.entries v ≡ true → Comes t gateway (back v) v
  back-comes v h = subst (λ w. Comes t gateway w v) (reverse-reverse (back v)) (leads-comes t gateway (reverse (back v)) v (b.path v h))

  back-grade : (v : ℕ) → labelled p.entries v ≡ true → turned_grade k grades (back v) ≡ Some (label_at k p v)
  back-grade v h = sym (grade-reverse k grades (back v)) ∙ b.grade v h

  -- where a turned path comes to, there is a label, no worse than its grade
  come-served : (w : List ℕ) (v : ℕ) → v < station_count t → Comes t gateway w v → Served k p v (turned_grade k grades w)
  come-served w v h c =
      let leads = comes-leads t gateway w v h c in
      (b.found v (reverse w) leads, rw (grade-reverse k grades w) at (b.best v (reverse w) leads))

  -- the gateway's own way is empty
  gate-label : label_at k p gateway ≡ k.start
  gate-label =
      let none = walk_stops t p.entries (station_count t) gateway (own_stops p.entries gateway t star.light b.gate) in
      same_Some _ _ (sym (back-grade gateway (own_labelled p.entries gateway b.gate)) ∙ ap (turned_grade k grades) none)

  -- the way to another station, without its last link, is that of the link's tail
  handed-on : (v : ℕ) → labelled p.entries v ≡ true → v ≢ gateway → HandedOn k t grades p v
  handed-on v h other =
      let l = entry_at p.entries v in
      let u = tail_at t l in
      let way = back-comes v h in
      let first : back v ≡ l ∷ back u =
      home-first t p.entries gateway (own_stops p.entries gateway t star.light b.gate) (station_count t) v way other in
      let into = subst (λ w. Comes t gateway w v) first way in
      let from = (come-served (back u) u (tail-leaves star l into.0).station into.2).0 in (
        home-moves t p.entries gateway (station_count t) v way other,
        from,
        ap (λ o. through k grades o l) (sym (back-grade u from)) ∙ sym (ap (turned_grade k grades) first) ∙ back-grade v h,
      )

  -- the way to a station and a link more lead to the link's head
  link-served : (l : ℕ) → l < link_count t → labelled p.entries (tail_at t l) ≡ true
      → Served k p (head_at t l) (offered k grades p (tail_at t l) l)
  link-served l h from =
      subst (λ o. Served k p (head_at t l) (through k grades o l)) (back-grade (tail_at t l) from)
      (come-served (l ∷ back (tail_at t l)) (head_at t l) (lands star l h) (h, refl, back-comes (tail_at t l) from))

pub best_sound : {K L G : Type 0} (k : Kind K L G) {t : Table} (star : ForwardStar t) {gateway : ℕ} {grades : List G} {p : Plan L}
    → BestTree k t gateway grades p → Sound k t gateway grades p
best_sound k {t} star {gateway} {grades} {p} b = record {
  graded = b.graded;
  sized = b.sized;
  station = b.station;
  gate_label = gate-label k star b.paths;
  gate_entry = b.paths.gate;
  entry = handed-on k star b.paths;
  walk = λ v h. home-end t p.entries gateway (station_count t) v (back-comes k star b.paths v h);
  link = link-served k star b.paths;
}
