-- The listing of simple paths grows all lists that pass its test, no others, and each once.
use Rattle.std.proofs.Common.{◌≡◌, ℕ, zero, suc, ◌+◌, ◌<◌, ◌≤◌, true, List, [], ◌∷◌, length, sym, refl, ap, ◌∙◌, subst, inl, inr, arith}
use Rattle.std.proofs.lemmas.Bool.{cases_eq, cond-true, cond_both}
use Rattle.net.specs.Table.{Table, link_count, head_at, tail_at}
use Rattle.paths.specs.Lists.{In, NoDup}
use Rattle.paths.specs.Simple.{simple, grow, grow_all, up_to}
use Rattle.paths.proofs.Members.{in_left, in_right, append-in, nodup_append}
use Rattle.paths.proofs.Passing.{Passing, passing-parts}

-- q is p with one link more, of those below k, and passes
record Grown (t : Table) (k : ℕ) (p q : List ℕ) : Type 0 where
  link : ℕ
  is : q ≡ link ∷ p
  below : link < k
  passes : simple t (link ∷ p) (head_at t link) ≡ true

module _ (t : Table) where
  -- one path, grown by the links below k
  wider : (k : ℕ) (p q : List ℕ) → Grown t k p q → Grown t (suc k) p q
  wider k p q g = record { link = g.link; is = g.is; below = omega (arith, g.below); passes = g.passes }

  grow-in : (k : ℕ) (p q : List ℕ) → In q (grow t k p) → Grown t k p q
  grow-in zero p q = λ i. elim i [ ]
  grow-in (suc k) p q =
      cond_both (simple t (k ∷ p) (head_at t k)) ((k ∷ p) ∷ grow t k p) (grow t k p) (λ r. In q r → Grown t (suc k) p q)
      (λ h i. elim i [ inl e ↦ record { link = k; is = e; below = omega arith; passes = h } | inr j ↦ wider k p q (grow-in k p q j) ])
      (λ _ i. wider k p q (grow-in k p q i))

  in-grow : (k l : ℕ) (p : List ℕ) → l < k → simple t (l ∷ p) (head_at t l) ≡ true → In (l ∷ p) (grow t k p)
  in-grow zero l p h s = absurd (omega arith)
  in-grow (suc k) l p h s = elim (cases_eq l k) [
    | inl e ↦ rw (← e, cond-true _ _ _ s) (inl refl)
    | inr d ↦ (let i = in-grow k l p (omega arith) s in
        cond_both (simple t (k ∷ p) (head_at t k)) ((k ∷ p) ∷ grow t k p) (grow t k p) (λ r. In (l ∷ p) r) (λ _. inr i) (λ _. i))
  ]

  grow-once : (k : ℕ) (p : List ℕ) → NoDup (grow t k p)
  grow-once zero p = tt
  grow-once (suc k) p =
      cond_both (simple t (k ∷ p) (head_at t k)) ((k ∷ p) ∷ grow t k p) (grow t k p) (λ r. NoDup r)
      (λ _. (λ i. last (grow-in k p (k ∷ p) i), grow-once k p))
      (λ _. grow-once k p)
    where
      last : Grown t k p (k ∷ p) → ⊥
      last g = let e = g.is in let f : k ≡ g.link = cc in omega (arith, f, g.below)

  -- each path of a list, grown
  grow_all-in : (ps : List (List ℕ)) (q : List ℕ) → In q (grow_all t ps) → (p : List ℕ) × In p ps × Grown t (link_count t) p q
  grow_all-in [] q i = elim i [ ]
  grow_all-in (p ∷ ps) q i = elim (append-in q (grow t (link_count t) p) (grow_all t ps) i) [
    | inl j ↦ (p, inl refl, grow-in (link_count t) p q j)
    | inr j ↦ (let r = grow_all-in ps q j in (r.0, inr r.1, r.2))
  ]

  in-grow_all : (ps : List (List ℕ)) (l : ℕ) (p : List ℕ) → In p ps → l < link_count t
      → simple t (l ∷ p) (head_at t l) ≡ true → In (l ∷ p) (grow_all t ps)
  in-grow_all [] l p i h s = elim i [ ]
  in-grow_all (q ∷ ps) l p (inl e) h s =
      in_left (l ∷ p) (grow t (link_count t) q) (grow_all t ps)
      (subst (λ r. In (l ∷ p) (grow t (link_count t) r)) e (in-grow (link_count t) l p h s))
  in-grow_all (q ∷ ps) l p (inr i) h s =
      in_right (l ∷ p) (grow t (link_count t) q) (grow_all t ps) (in-grow_all ps l p i h s)

  grow_all-once : (ps : List (List ℕ)) → NoDup ps → NoDup (grow_all t ps)
  grow_all-once [] d = tt
  grow_all-once (p ∷ ps) d =
      nodup_append (grow t (link_count t) p) (grow_all t ps) (grow-once (link_count t) p) (grow_all-once ps d.1)
      (λ q i j. apart q (grow-in (link_count t) p q i) (grow_all-in ps q j))
    where
      apart : (q : List ℕ) → Grown t (link_count t) p q → (r : List ℕ) × In r ps × Grown t (link_count t) r q → ⊥
      apart q g (r, i, h) =
          let e = g.is in
          let f = h.is in
          let same : r ≡ p = cc in
          d.0 (subst (λ w. In w ps) same i)

  -- ps holds all lists of j links that pass
  abbrev pub Full : ℕ → List (List ℕ) → Type 0
  Full j ps = (p : List ℕ) (v : ℕ) → length p ≡ j → Passing t p v → In p ps

  -- and no other lists
  abbrev pub Only : ℕ → List (List ℕ) → Type 0
  Only j ps = (p : List ℕ) → In p ps → (length p ≡ j) × ((v : ℕ) × Passing t p v)

  grow_all-full : (j : ℕ) (ps : List (List ℕ)) → Full j ps → Full (suc j) (grow_all t ps)
  grow_all-full j ps full [] v e h = absurd (omega arith)
  grow_all-full j ps full (l ∷ p) v e h =
      let c = passing-parts t l p v h.1 in
      let s = subst (λ x. simple t (l ∷ p) x ≡ true) (sym c.0) h.1 in
      in-grow_all ps l p (full p (tail_at t l) (omega arith) (h.0.1, c.2)) h.0.0 s

  grow_all-only : (j : ℕ) (ps : List (List ℕ)) → Only j ps → Only (suc j) (grow_all t ps)
  grow_all-only j ps only q i =
      let (p, k, g) = grow_all-in ps q i in
      let (e, (v, h)) = only p k in
      let w = head_at t g.link in
      (ap length g.is ∙ ap suc e, (w, subst (λ r. Passing t r w) (sym g.is) ((g.below, h.0), g.passes)))

  -- the listing from lists of j links on, up to k links more
  pub up_to-full : (k j : ℕ) (ps : List (List ℕ)) → Full j ps
      → (q : List ℕ) (v : ℕ) → j < length q → length q ≤ j + k → Passing t q v → In q (up_to t k ps)
  up_to-full zero j ps full q v more most h = absurd (omega arith)
  up_to-full (suc k) j ps full q v more most h = elim (cases_eq (length q) (suc j)) [
    | inl e ↦ in_left q (grow_all t ps) (up_to t k (grow_all t ps)) (grow_all-full j ps full q v e h)
    | inr d ↦ in_right q (grow_all t ps) (up_to t k (grow_all t ps))
        (up_to-full k (suc j) (grow_all t ps) (grow_all-full j ps full) q v (omega arith) (omega arith) h)
  ]

  pub up_to-only : (k j : ℕ) (ps : List (List ℕ)) → Only j ps
      → (q : List ℕ) → In q (up_to t k ps) → (j < length q) × ((v : ℕ) × Passing t q v)
  up_to-only zero j ps only q i = elim i [ ]
  up_to-only (suc k) j ps only q i = elim (append-in q (grow_all t ps) (up_to t k (grow_all t ps)) i) [
    | inl f ↦ (let r = grow_all-only j ps only q f in (omega (arith, r.0), r.1))
    | inr f ↦ (let r = up_to-only k (suc j) (grow_all t ps) (grow_all-only j ps only) q f in (omega (arith, r.0), r.1))
  ]

  pub up_to-once : (k j : ℕ) (ps : List (List ℕ)) → Only j ps → NoDup ps → NoDup (up_to t k ps)
  up_to-once zero j ps only d = tt
  up_to-once (suc k) j ps only d =
      let next = grow_all t ps in
      let same = grow_all-only j ps only in
      nodup_append next (up_to t k next) (grow_all-once ps d) (up_to-once k (suc j) next same (grow_all-once ps d))
      (λ q a b. omega (arith, (same q a).0, (up_to-only k (suc j) next same q b).0))
