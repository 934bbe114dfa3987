-- The paths over which the labels came since a view: each is simple and none comes twice.
use Rattle.std.proofs.Common.{◌≡◌, ℕ, ◌<◌, ◌≤◌, true, false, eqb, List, [], ◌∷◌, map, reverse, length, Some, None, Option, refl, sym, ap, ap₂, ◌∙◌, subst, inl, inr, arith}
use lib.ListN.{length-map}
use Rattle.std.proofs.lemmas.List.{reverse-reverse}
use Rattle.std.proofs.lemmas.Bool.{cases_eq, cases_Bool, eq-eqb, eqb-true, and_from, or_cases, not_from_false}
use Rattle.kinds.specs.declared.kind.Kind.{Ghosts as Kind}
use Rattle.kinds.specs.Laws.{Laws}
use Rattle.kinds.specs.Order.{AtLeast}
use Rattle.net.specs.Table.{Table, ForwardStar, link_count, head_at, tail_at}
use Rattle.paths.specs.Grade.{carried_over}
use Rattle.paths.specs.Lists.{In, NoDup}
use Rattle.paths.specs.Simple.{meets, simple, simple_paths}
use Rattle.paths.proofs.Listing.{listing}
use Rattle.paths.proofs.Members.{map-in, nodup-map}
use Rattle.paths.proofs.Passing.{Links, passing-simple}
use Rattle.plans.proofs.Labels.{as_good-same, as_good-equal, carried-worse}
use Rattle.law.proofs.Invariant.{Fit, View, Lab}
use Rattle.law.proofs.Pigeons.{pigeons}
use Rattle.law.proofs.Writing.{On, Takes, Wrote, better_there, head_lab, still_lab}

meets-on : (t : Table) (x : ℕ) (p : List ℕ) (v : ℕ) → meets t x p v ≡ true → On t x p v
meets-on t x [] v h = eqb-true x v h
meets-on t x (l ∷ p) v h = elim (or_cases (eqb x v) (meets t x p (tail_at t l)) h) [
  | inl e ↦ inl (eqb-true x v e)
  | inr m ↦ inr (meets-on t x p (tail_at t l) m)
]

-- one link more keeps a path simple, if it leads to a station that was not met
simple-more : (t : Table) (l : ℕ) (p : List ℕ) → simple t p (tail_at t l) ≡ true → (On t (head_at t l) p (tail_at t l) → ⊥)
    → simple t (l ∷ p) (head_at t l) ≡ true
simple-more t l p h off =
    let m : meets t (head_at t l) p (tail_at t l) ≡ false = elim (cases_Bool (meets t (head_at t l) p (tail_at t l))) [
      | inl e ↦ absurd (off (meets-on t (head_at t l) p (tail_at t l) e))
      | inr e ↦ e
    ] in
    and_from _ _ (eq-eqb (head_at t l) (head_at t l) refl) (and_from _ _ (not_from_false _ m) h)

module _ {K L G : Type 0} (k : Kind K L G) where
  -- what a link of this grade makes of a label, if there are both
  abbrev pub onward : Option L → Option G → Option L
  onward None g = None
  onward (Some x) g = carried_over k x g

  -- it came from a label that was no worse
  onward-from : (o : Option L) (g : Option G) (a : L) → onward o g ≡ Some a → (x : L) × (o ≡ Some x) × (carried_over k x g ≡ Some a)
  onward-from None g a e = absurd cc
  onward-from (Some x) g a e = (x, refl, e)

module _ {K L G : Type 0} (k : Kind K L G) (t : Table) (s0 : View L G) where
  -- the label at the beginning of p, carried over p, which ends at v
  abbrev pub worth : List ℕ → ℕ → Option L
  worth [] v = Some (s0.lab v)
  worth (l ∷ p) v = onward k (worth p (tail_at t l)) (s0.gr l)

  -- a label came to v over p since the view, or it had one then
  abbrev pub Known : List (List ℕ) → List ℕ → ℕ → Type 0
  Known ways [] v = Lab k t s0 v
  Known ways (l ∷ p) v = (head_at t l ≡ v) × In (l ∷ p) ways

  abbrev pub Good : List (List ℕ) → List ℕ → Type 0
  Good ways [] = ⊥
  Good ways (l ∷ p) = (simple t (l ∷ p) (head_at t l) ≡ true) × (l < link_count t) × Known ways p (tail_at t l)

  pub record Hist (s : View L G) (ways : List (List ℕ)) : Type 0 where
    pub gr_same : (j : ℕ) → s.gr j ≡ s0.gr j
    pub once : NoDup ways
    pub closed : (q : List ℕ) → In q ways → Good ways q
    -- each label came over one of the paths
    pub made : (v : ℕ) → Lab k t s v → (p : List ℕ) × Known ways p v × (worth p v ≡ Some (s.lab v))
    -- and is no worse than any that came
    pub past : (p : List ℕ) (v : ℕ) → Known ways p v → (a : L) × (worth p v ≡ Some a) × Lab k t s v × AtLeast k (s.lab v) a

  known-more : (ways : List (List ℕ)) (q p : List ℕ) (v : ℕ) → Known ways p v → Known (q ∷ ways) p v
  known-more ways q [] v h = h
  known-more ways q (l ∷ p) v h = (h.0, inr h.1)

  good-more : (ways : List (List ℕ)) (q p : List ℕ) → Good ways p → Good (q ∷ ways) p
  good-more ways q [] h = h
  good-more ways q (l ∷ p) h = (h.0, h.1, known-more ways q p (tail_at t l) h.2)

  module _ (ways : List (List ℕ)) (closed : (q : List ℕ) → In q ways → Good ways q) where
    known-simple : (p : List ℕ) (v : ℕ) → Known ways p v → simple t p v ≡ true
    known-simple [] v h = refl
    known-simple (l ∷ p) v h = subst (λ y. simple t (l ∷ p) y ≡ true) h.0 (closed (l ∷ p) h.1).0

    known-links : (p : List ℕ) (v : ℕ) → Known ways p v → Links t p
    known-links [] v h = tt
    known-links (l ∷ p) v h = let g = closed (l ∷ p) h.1 in (g.1, known-links p (tail_at t l) g.2)

    -- there are no more of them than simple paths
    ways-few : ForwardStar t → NoDup ways → length ways ≤ length (simple_paths t)
    ways-few star once =
        let turned = nodup-map reverse (λ x y e. sym (reverse-reverse x) ∙ ap reverse e ∙ reverse-reverse y) ways once in
        omega (arith, pigeons (map reverse ways) (simple_paths t) turned each, length-map {B = List ℕ} ways reverse)
      where
        each-way : (q : List ℕ) → In q ways → In (reverse q) (simple_paths t)
        each-way [] i = absurd (closed [] i)
        each-way (l ∷ p) i =
            let some = passing-simple star (l ∷ p) (head_at t l) (omega arith) (known-links (l ∷ p) (head_at t l) (refl, i), (closed (l ∷ p) i).0) in
            (listing star).complete (reverse (l ∷ p)) some

        each : (z : List ℕ) → In z (map reverse ways) → In z (simple_paths t)
        each z i =
            let (q, j, e) = map-in reverse z ways i in
            subst (λ x. In x (simple_paths t)) (sym e) (each-way q j)

  pub hist_few : ForwardStar t → (s : View L G) (ways : List (List ℕ)) → Hist s ways → length ways ≤ length (simple_paths t)
  hist_few star s ways h = ways-few ways h.closed star h.once

-- at the view itself no label has come yet
pub hist_none : {K L G : Type 0} (k : Kind K L G) (laws : Laws k.carry k.at_least k.rank) (t : Table) (s0 : View L G) → Hist k t s0 s0 []
hist_none {L = L} k laws t s0 = record {
  gr_same = λ j. refl;
  once = tt;
  closed = λ q i. elim i [ ];
  made = λ v h. ([], h, refl);
  past = past;
}
  where
    past : (p : List ℕ) (v : ℕ) → Known k t s0 [] p v → (a : L) × (worth k t s0 p v ≡ Some a) × Lab k t s0 v × AtLeast k (s0.lab v) a
    past [] v h = (s0.lab v, refl, h, as_good-same k laws (s0.lab v))
    past (l ∷ p) v h = elim h.1 [ ]

module _ {K L G : Type 0} (k : Kind K L G) (laws : Laws k.carry k.at_least k.rank) (t : Table) (fit : Fit t)
    (s0 s : View L G) (ways : List (List ℕ)) (h : Hist k t s0 s ways) where
  -- what stands on a known path is known too, and was no worse
  gone : (p : List ℕ) (v x : ℕ) → Known k t s0 ways p v → On t x p v → (b : L) → worth k t s0 p v ≡ Some b
      → (q : List ℕ) × Known k t s0 ways q x × ((d : L) × (worth k t s0 q x ≡ Some d) × AtLeast k d b)
  gone [] v x known on b e = ([], subst (λ y. Lab k t s0 y) (sym on) known, (b, ap (λ y. Some (s0.lab y)) on ∙ e, as_good-same k laws b))
  gone (l ∷ p) v x known (inl f) b e = (l ∷ p, (known.0 ∙ sym f, known.1), (b, e, as_good-same k laws b))
  gone (l ∷ p) v x known (inr on) b e =
      let c = onward-from k (worth k t s0 p (tail_at t l)) (s0.gr l) b e in
      let r = gone p (tail_at t l) x (h.closed (l ∷ p) known.1).2 on c.0 c.1 in
      let d = r.2 in
      (r.0, r.1, (d.0, d.1, laws.trans _ _ _ d.2 (carried-worse k laws c.0 (s0.gr l) b c.2)))

  module _ (u : View L G) (l : ℕ) (a : L) (i : Takes k t s l a) (w : Wrote k t s u l a) where
    pub way : List ℕ
    way = (h.made (tail_at t l) i.from).0

    way-known : Known k t s0 ways way (tail_at t l)
    unfolding way
    way-known = (h.made (tail_at t l) i.from).1

    way-before : worth k t s0 way (tail_at t l) ≡ Some (s.lab (tail_at t l))
    unfolding way
    way-before = (h.made (tail_at t l) i.from).2

    way-worth : worth k t s0 (l ∷ way) (head_at t l) ≡ Some a
    way-worth = ap₂ (onward k) way-before (sym (h.gr_same l)) ∙ i.offered

    -- a label as good as what the head is offered had not come to it
    unlike : (q : List ℕ) → Known k t s0 ways q (head_at t l) → (d : L) → worth k t s0 q (head_at t l) ≡ Some d → AtLeast k d a → ⊥
    unlike q known d e good =
        let c = h.past q (head_at t l) known in
        let same : c.0 ≡ d = (cc (c.1, e)) in
        (i.better c.2).1 (laws.trans _ _ _ (subst (λ z. AtLeast k (s.lab (head_at t l)) z) same c.3) good)

    not-on : On t (head_at t l) way (tail_at t l) → ⊥
    not-on on =
        let r = gone way (tail_at t l) (head_at t l) way-known on (s.lab (tail_at t l)) way-before in
        let d = r.2 in
        unlike r.0 r.1 d.0 d.1 (laws.trans _ _ _ d.2 (carried-worse k laws (s.lab (tail_at t l)) (s.gr l) a i.offered))

    fresh : In (l ∷ way) ways → ⊥
    fresh m = unlike (l ∷ way) (refl, m) a way-worth (as_good-same k laws a)

    pub wrote_hist : Hist k t s0 u ((l ∷ way) ∷ ways)
    wrote_hist = record {
      gr_same = λ j. w.gr_is j ∙ h.gr_same j;
      once = (fresh, h.once);
      closed = λ q m. elim m [
        | inl e ↦
            let passes = simple-more t l way (known-simple k t s0 ways h.closed way (tail_at t l) way-known) not-on in
            subst (λ r. Good k t s0 ((l ∷ way) ∷ ways) r) (sym e) (passes, i.in_net, known-more k t s0 ways (l ∷ way) way (tail_at t l) way-known)
        | inr n ↦ good-more k t s0 ways (l ∷ way) q (h.closed q n)
      ];
      made = λ v lab. elim (cases_eq v (head_at t l)) [
        | inl e ↦ (l ∷ way, (sym e, inl refl), way-worth ∙ ap Some (sym (ap u.lab e ∙ w.lab_at)))
        | inr d ↦
            let r = h.made v (λ e. lab (w.ent_off v d ∙ e)) in
            (r.0, known-more k t s0 ways (l ∷ way) r.0 v r.1, r.2 ∙ ap Some (sym (w.lab_off v d)))
      ];
      past = past;
    }
      where
        Past : List ℕ → ℕ → Type 0
        Past p v = (b : L) × (worth k t s0 p v ≡ Some b) × Lab k t u v × AtLeast k (u.lab v) b

        old : (p : List ℕ) (v : ℕ) → Known k t s0 ways p v → Past p v
        old p v known =
            let c = h.past p v known in
            (c.0, c.1, still_lab k laws t fit s u l a i w v c.2, laws.trans _ _ _ (better_there k laws t fit s u l a i w v c.2) c.3)

        past : (p : List ℕ) (v : ℕ) → Known k t s0 ((l ∷ way) ∷ ways) p v → Past p v
        past [] v known = old [] v known
        past (j ∷ p) v known = elim known.1 [
          | inl f ↦
              let g : j ≡ l = cc in
              let e : v ≡ head_at t l = sym known.0 ∙ ap (head_at t) g in (
                a,
                ap (λ q. worth k t s0 q v) f ∙ way-worth,
                subst (λ y. Lab k t u y) (sym e) (head_lab k laws t fit s u l a i w),
                as_good-equal k laws _ _ (ap u.lab e ∙ w.lab_at),
              )
          | inr m ↦ old (j ∷ p) v (known.0, m)
        ]
