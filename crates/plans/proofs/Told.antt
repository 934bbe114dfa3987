-- A check finds no fault exactly in what is sound.
use Rattle.std.proofs.Common.{◌≡◌, ℕ, ◌<◌, ◌≤◌, ◌≢◌, Bool, true, false, ◌&&◌, eqb, List, length, Some, None, sym, refl, ◌∙◌, inl, inr, arith}
use Rattle.std.proofs.lemmas.Bool.{cases_Bool, both_ways, and_parts, and_from, and_left, and_right, not-true, not-false, not_from_true, not_from_false, ltb-true, lt-ltb, eqb-true, eq-eqb, eqb-false, ne_eqb}
use Rattle.std.proofs.lemmas.Option.{slice_get_cases}
use Rattle.kinds.specs.declared.kind.Kind.{Ghosts as Kind}
use Rattle.kinds.specs.Laws.{Laws}
use Rattle.net.specs.Table.{Table, station_count, link_count, head_at, tail_at}
use Rattle.walks.specs.Walk.{own, entry_at, labelled, moves, walk_end, passes}
use Rattle.walks.proofs.Homing.{passes-end}
use Rattle.plans.specs.Plan.{Plan, graded, label_at}
use Rattle.plans.specs.Offers.{offered}
use Rattle.plans.specs.Faults.{entry_fault, walk_fault, link_fault, first_fault}
use Rattle.plans.proofs.Tests.{unless_none, none_unless, first_none, none_first}
use Rattle.plans.proofs.Comparing.{same_is, is_same, just_is, is_just, declined, declines}
use Rattle.plans.proofs.Labelled.{own_stops, sized_within}
use Rattle.plans.proofs.Offering.{offered-is}
use Rattle.plans.proofs.Sound.{HandedOn, Served, Sound}

-- two tests fail together: where the one passes, the other fails
other-fails : (x y : Bool) → (x && y) ≡ false → x ≡ true → y ≡ false
other-fails x y e h = elim (cases_Bool y) [ inl f ↦ absurd (both_ways _ e (and_from _ _ h f)) | inr f ↦ f ]

fail-together : (x y : Bool) → (x ≡ true → y ≡ false) → (x && y) ≡ false
fail-together x y h = elim (cases_Bool x) [ inl e ↦ and_right _ _ (h e) | inr e ↦ and_left _ _ e ]

-- with one grade per link each link makes something of a label
pub link-offers : {K L G : Type 0} (k : Kind K L G) (t : Table) (grades : List G) (p : Plan L) → graded t grades ≡ true → (x l : ℕ) → l < link_count t
    → (a : L) × (offered k grades p x l ≡ Some a)
link-offers k t grades p long x l h = elim ((slice_get_cases grades l).1) [
  | inl (g, below, _, grade) ↦ (k.carry (label_at k p x) g, offered-is k grades p x l (label_at k p x) g _ refl below (sym grade) refl)
  | inr q ↦ absurd (omega (arith, q.0, eqb-true (length grades) (link_count t) long, h))
]

module _ {K L G : Type 0} (k : Kind K L G) (laws : Laws k.carry k.at_least k.rank) (t : Table) (few : link_count t ≤ 4096)
    (gateway : ℕ) (grades : List G) (p : Plan L) where
  -- the gateway's own entry stops each walk that meets it
  passes-own : entry_at p.entries gateway ≡ own → (v : ℕ) → passes t p.entries gateway v ≡ eqb (walk_end t p.entries (station_count t) v) gateway
  passes-own gate v = passes-end t p.entries gateway (own_stops p.entries gateway t few gate) v

  -- what each of the three tests by station or link tells
  entry-told : (v : ℕ) → entry_fault k t gateway grades p v ≡ false → labelled p.entries v ≡ true → v ≢ gateway → HandedOn k t grades p v
  entry-told v e h other =
      let by = not-false _ (other-fails _ _ (other-fails _ _ e h) (not_from_false _ (ne_eqb v gateway other))) in
      elim (cases_Bool (moves t p.entries v)) [
        | inl on ↦ let (from, just) = and_parts _ _ (rw on at by) in (on, from, just_is k laws _ _ just)
        | inr still ↦ absurd (both_ways _ refl (rw still at by))
      ]

  walk-told : entry_at p.entries gateway ≡ own → (v : ℕ) → walk_fault t gateway p.entries v ≡ false → labelled p.entries v ≡ true
      → walk_end t p.entries (station_count t) v ≡ gateway
  walk-told gate v e h = eqb-true _ _ (sym (passes-own gate v) ∙ not-false _ (other-fails _ _ e h))

  link-told : graded t grades ≡ true → (l : ℕ) → l < link_count t → link_fault k t grades p l ≡ false → labelled p.entries (tail_at t l) ≡ true
      → Served k p (head_at t l) (offered k grades p (tail_at t l) l)
  link-told long l h e from =
      let (a, is) = link-offers k t grades p long (tail_at t l) l h in
      declined k laws p (head_at t l) _ a is (other-fails _ _ e from)

  pub told_sound : first_fault k t gateway grades p ≡ None → Sound k t gateway grades p
  told_sound e =
      let (long, a) = unless_none _ _ _ e in
      let (fits, b) = unless_none _ _ _ a in
      let (station, c) = unless_none _ _ _ b in
      let (root, d) = unless_none _ _ _ c in
      let (label, own_entry) = and_parts _ _ root in
      let gate = eqb-true _ _ own_entry in
      let (entries, f) = first_none _ _ _ _ d in
      let (walks, g) = first_none _ _ _ _ f in
      let (links, _) = first_none _ _ _ _ g in
      let within : (v : ℕ) → labelled p.entries v ≡ true → v < station_count t = λ v h. sized_within t p fits v h in
      record {
        graded = long;
        sized = fits;
        station = ltb-true _ _ station;
        gate_label = same_is k laws _ _ label;
        gate_entry = gate;
        entry = λ v h other. entry-told v (entries v (within v h)) h other;
        walk = λ v h. walk-told gate v (walks v (within v h)) h;
        link = λ l h from. link-told long l h (links l h) from;
      }

  module _ (s : Sound k t gateway grades p) where
    tell-entry : (v : ℕ) → entry_fault k t gateway grades p v ≡ false
    tell-entry v =
        fail-together _ _ (λ h. fail-together _ _ (λ other.
        let (on, from, just) = s.entry v h (λ e. eqb-false v gateway (not-true _ other) e) in
        not_from_true _ (rw on (and_from _ _ from (is_just k laws _ _ just)))))

    tell-walk : (v : ℕ) → walk_fault t gateway p.entries v ≡ false
    tell-walk v = fail-together _ _ (λ h. not_from_true _ (passes-own s.gate_entry v ∙ eq-eqb _ _ (s.walk v h)))

    tell-link : (l : ℕ) → l < link_count t → link_fault k t grades p l ≡ false
    tell-link l h = fail-together _ _ (λ from. declines k laws p (head_at t l) _ (s.link l h from))

    pub sound_told : first_fault k t gateway grades p ≡ None
    sound_told =
        none_unless _ _ _ s.graded (none_unless _ _ _ s.sized (none_unless _ _ _ (lt-ltb _ _ s.station)
        (none_unless _ _ _ (and_from _ _ (is_same k laws _ _ s.gate_label) (eq-eqb _ _ s.gate_entry))
        (none_first _ _ _ _ (λ v _. tell-entry v) (none_first _ _ _ _ (λ v _. tell-walk v) (none_first _ _ _ _ tell-link refl))))))
