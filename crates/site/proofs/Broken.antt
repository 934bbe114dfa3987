-- Where a proposed way breaks off: at one of its places, and not because of its first link's tail.
use Rattle.std.proofs.Common.{◌≡◌, ℕ, ◌+◌, ◌<◌, ◌≤◌, ◌⊎◌, List, [], ◌∷◌, length, Some, sym, refl, subst, inl, inr, arith}
use Rattle.std.proofs.lemmas.Bool.{cases_lt, cases_eq, lt-ltb, le-ltb, eq-eqb, ne_eqb}
use Rattle.net.specs.Table.{Table, ForwardStar, station_count, link_count, head_at, tail_at}
use Rattle.net.proofs.Tails.{tail-leaves}
use Rattle.paths.specs.declared.grade.NotPath.{NotPath}
use Rattle.paths.specs.declared.grade.NotPath.TheVariants.{Grades, NoStation, NoLink, Parted}
use Rattle.paths.specs.Answer.{breaks, not_path}
use Rattle.site.specs.Ways.{beginning}

-- the place of a break, in a list of n links whose first has place i
abbrev pub Placed : ℕ → ℕ → NotPath → Type 0
Placed i n Grades = ⊥
Placed i n NoStation = ⊥
Placed i n (NoLink j) = (i ≤ j) × (j < i + n)
Placed i n (Parted j) = (i ≤ j) × (j < i + n)

some_same : {A : Type 0} (P : A → Type 0) (x y : A) → Some x ≡ Some y → P x → P y
some_same P x y e p = let f : x ≡ y = cc in subst P f p

later : (i n : ℕ) (e : NotPath) → Placed (i + 1) n e → Placed i (1 + n) e
later i n Grades h = h
later i n NoStation h = h
later i n (NoLink j) h = (omega arith, omega arith)
later i n (Parted j) h = (omega arith, omega arith)

longer : (i m n : ℕ) (e : NotPath) → 1 + m ≡ n → Placed (i + 1) m e → Placed i n e
longer i m n e f h = subst (λ x. Placed i x e) f (later i m e h)

module _ (t : Table) where
  pub placed : (p : List ℕ) (i a : ℕ) (e : NotPath) → breaks t i a p ≡ Some e → Placed i (length p) e
  placed [] i a e h = let z : ◌≡◌ {A = ℕ} 0 1 = cc in absurd (omega arith)
  placed (l ∷ p) i a e h =
      elim (cases_lt l (link_count t)) [
        | inr m ↦
            let f : Some (NoLink i) ≡ Some e = rw (le-ltb l (link_count t) m) at h in
            some_same (Placed i (length (l ∷ p))) (NoLink i) e f (omega arith, omega arith)
        | inl m ↦ elim (cases_eq (tail_at t l) a) [
          | inr d ↦
              let f : Some (Parted i) ≡ Some e = rw (lt-ltb l (link_count t) m, ne_eqb (tail_at t l) a d) at h in
              some_same (Placed i (length (l ∷ p))) (Parted i) e f (omega arith, omega arith)
          | inl d ↦
              let f : breaks t (i + 1) (head_at t l) p ≡ Some e = rw (lt-ltb l (link_count t) m, eq-eqb (tail_at t l) a d) at h in
              longer i (length p) (length (l ∷ p)) e (omega arith) (placed p (i + 1) (head_at t l) e f)
        ]
      ]

  -- the first link does begin where the way does
  pub parted-late : (way : List ℕ) (j : ℕ) → breaks t 0 (beginning t way) way ≡ Some (Parted j) → (1 ≤ j) × (j < length way)
  parted-late [] j h = let z : ◌≡◌ {A = ℕ} 0 1 = cc in absurd (omega arith)
  parted-late (l ∷ p) j h =
      elim (cases_lt l (link_count t)) [
        | inr m ↦
            let f : Some (NoLink 0) ≡ Some (Parted j) = rw (le-ltb l (link_count t) m) at h in
            let z : ◌≡◌ {A = ℕ} 0 1 = cc in absurd (omega arith)
        | inl m ↦
            let b : beginning t (l ∷ p) ≡ tail_at t l = rw (lt-ltb l (link_count t) m) in
            let f : breaks t 1 (head_at t l) p ≡ Some (Parted j) =
            rw (b, lt-ltb l (link_count t) m, eq-eqb (tail_at t l) (tail_at t l) refl) at h in
            let r = placed p 1 (head_at t l) (Parted j) f in
            (r.0, omega (arith, r.1))
      ]

-- what is known of a way that is refused so, where there are so many grades
abbrev pub Told : Table → ℕ → List ℕ → NotPath → Type 0
Told t count way Grades = count ≡ link_count t → ⊥
Told t count way NoStation = ⊥
Told t count way (NoLink i) = (count ≡ link_count t) × (breaks t 0 (beginning t way) way ≡ Some (NoLink i)) × (i < length way)
Told t count way (Parted i) = (count ≡ link_count t) × (breaks t 0 (beginning t way) way ≡ Some (Parted i)) × (1 ≤ i) × (i < length way)

module _ {t : Table} (star : ForwardStar t) where
  -- a way begins at a station
  pub begins : (way : List ℕ) → beginning t way < station_count t
  begins [] = omega (arith, star.some)
  begins (l ∷ p) =
      elim (cases_lt l (link_count t)) [
        | inl m ↦ rw (lt-ltb l (link_count t) m) (tail-leaves star l m).station
        | inr m ↦ rw (le-ltb l (link_count t) m) (omega (arith, star.some))
      ]

  -- what is refused of a way: the grades are not one per link, or the way breaks off
  pub told-cases : (count : ℕ) (way : List ℕ) (e : NotPath) → not_path t count (beginning t way) way ≡ Some e
      → ((count ≡ link_count t → ⊥) × (e ≡ Grades)) ⊎ ((count ≡ link_count t) × (breaks t 0 (beginning t way) way ≡ Some e))
  told-cases count way e h =
      elim (cases_eq count (link_count t)) [
        | inr d ↦
            let f : Some Grades ≡ Some e = rw (ne_eqb count (link_count t) d) at h in
            inl (d, cc)
        | inl d ↦ inr (d, rw (eq-eqb count (link_count t) d, lt-ltb (beginning t way) (station_count t) (begins way)) at h)
      ]

  broken : (count : ℕ) (way : List ℕ) (e : NotPath) → count ≡ link_count t → breaks t 0 (beginning t way) way ≡ Some e → Told t count way e
  broken count way Grades n b = absurd (placed t way 0 (beginning t way) Grades b)
  broken count way NoStation n b = placed t way 0 (beginning t way) NoStation b
  broken count way (NoLink i) n b = (n, b, omega (arith, (placed t way 0 (beginning t way) (NoLink i) b).1))
  broken count way (Parted i) n b = let k = parted-late t way i b in (n, b, k.0, k.1)

  pub told : (count : ℕ) (way : List ℕ) (e : NotPath) → not_path t count (beginning t way) way ≡ Some e → Told t count way e
  told count way e h = elim (told-cases count way e h) [ inl (d, g) ↦ subst (Told t count way) (sym g) d | inr (n, b) ↦ broken count way e n b ]
