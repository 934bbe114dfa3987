-- What a push makes of the rows: one station more at the end of one of them.
use Rattle.std.proofs.Common.{◌≡◌, ℕ, ◌+◌, ◌<◌, true, false, ◌≢◌, List, [], ◌∷◌, ◌++◌, is_some, Some, None, Option, set, sym, refl, ap, ◌∙◌, subst, ⊎_elim, arith, if◌then◌else◌, ◌==◌, slice_index, slice_index_or}
use Rattle.std.proofs.lemmas.List.{get_or-set_same, get_or-set_other, length-set, map-set}
use Rattle.std.proofs.lemmas.Bool.{cases_eq, eq-eqb, ne_eqb, or_from, or_left, cond-true, cond-false, both_ways}
use Rattle.std.proofs.lemmas.Bool.Decides.{nat_tests}
use Rattle.lists.specs.Meaning.{count_below}
use Rattle.lists.specs.Stations.{holds, proper}
use Rattle.buckets.specs.Links.{row, queues}
use Rattle.buckets.specs.Rows.{in_rows}
use Rattle.lists.specs.declared.station.Station.{Station}
use Rattle.buckets.specs.declared.chains.Chains.{Chains}
use Rattle.lists.specs.Counts.{count-one}
use Rattle.lists.specs.StationsLemmas.{holds-push, proper-push}
use Rattle.buckets.specs.TiesLemmas.{Linked, differ, last-held, frame, extend}
use Rattle.buckets.specs.LinksLemmas.{out-queues, no_node, prev_at, end-out, links-many, backs-many, home-set, some-set, within-set, Settled, settled, known, node-below, nodes-apart}
use Rattle.buckets.specs.Ties.{row_of, is_home}
use Rattle.buckets.specs.Nodes.{nexts, prevs}
use Rattle.buckets.specs.declared.node.Node.{Node}
use Rattle.std.specs.Option.{ForSome}
use Rattle.std.proofs.Math.Seq.{map-set_same}

-- the row k once x is at the end of the row b
abbrev pub pushed : Chains → ℕ → ℕ → ℕ → List ℕ
pushed s b x k = (if (k == b) then row s k ++ x ∷ [] else row s k)

abbrev pub next-pushed : Chains → ℕ → ℕ → List ℕ
next-pushed s b x = set (set (nexts s.nodes) (slice_index (prevs s.nodes) (1024 + b)) x) x (1024 + b)

abbrev pub prev-pushed : Chains → ℕ → ℕ → List ℕ
prev-pushed s b x = set (set (prevs s.nodes) x (slice_index (prevs s.nodes) (1024 + b))) (1024 + b) x

-- how the three writes of a push come out, either way
module _ (nodes : List Node) (i j k : ℕ) (m n o d : Node) where
  pub nexts-pushed : o.next ≡ (slice_index_or (set (set nodes i m) j n) k d).next → nexts (set (set (set nodes i m) j n) k o) ≡ set (set (nexts nodes) i m.next) j n.next
  nexts-pushed e = map-set_same (λ (n : Node). n.next) _ k o d e ∙ map-set (λ (n : Node). n.next) _ j n ∙ ap (λ q. set q j n.next) (map-set (λ (n : Node). n.next) nodes i m)

  pub prevs-pushed : m.prev ≡ (slice_index_or nodes i d).prev → prevs (set (set (set nodes i m) j n) k o) ≡ set (set (prevs nodes) j n.prev) k o.prev
  prevs-pushed e = map-set (λ (n : Node). n.prev) _ k o ∙ ap (λ q. set q k o.prev) (map-set (λ (n : Node). n.prev) _ j n ∙ ap (λ q. set q j n.prev) (map-set_same (λ (n : Node). n.prev) nodes i m d e))

-- the station n, of the number x, goes to the end of the chain b
module _ (s : Chains) (b x : ℕ) (bb : b < 64) (n : Station) (is : x ≡ n.index) (out : in_rows (queues s) n.index ≡ false) where
  xb : x < 1024
  xb = omega (arith, is, n.small)

  gone : (k : ℕ) → k < 64 → holds (row s k) x ≡ false
  gone k l = ap (holds (row s k)) is ∙ out-queues s n.index out k l

  -- the nodes after the push
  abbrev last-of : ℕ
  last-of = (slice_index_or s.nodes (1024 + b) no_node).prev

  abbrev nodes-joined : List Node
  nodes-joined = set (set s.nodes last-of (record { next = x; prev = (slice_index_or s.nodes last-of no_node).prev })) x (record { next = 1024 + b; prev = last-of })

  abbrev pub nodes-pushed : List Node
  nodes-pushed = set nodes-joined (1024 + b) (record { next = (slice_index_or nodes-joined (1024 + b) no_node).next; prev = x })

  last-node : holds ((1024 + b) ∷ row s b) (slice_index (prevs s.nodes) (1024 + b)) ≡ true
  last-node = last-held (λ i. slice_index (nexts s.nodes) i) (λ i. slice_index (prevs s.nodes) i) (1024 + b) (row s b) (1024 + b) (known s b bb)

  pub last-below : slice_index (prevs s.nodes) (1024 + b) < 1088
  last-below = node-below s b (slice_index (prevs s.nodes) (1024 + b)) bb last-node

  new-out : (k : ℕ) → k < 64 → holds ((1024 + k) ∷ row s k) x ≡ false
  new-out k l = or_from _ _ (ne_eqb x (1024 + k) (omega arith)) (gone k l)

  last-old : slice_index (prevs s.nodes) (1024 + b) ≢ x
  last-old = differ ((1024 + b) ∷ row s b) (slice_index (prevs s.nodes) (1024 + b)) x last-node (new-out b bb)

  next-same : (k : ℕ) → (k ≡ slice_index (prevs s.nodes) (1024 + b) → ⊥) → (k ≡ x → ⊥) → slice_index (next-pushed s b x) k ≡ slice_index (nexts s.nodes) k
  next-same k kt kx = get_or-set_other _ x k (1024 + b) 0 kx ∙ get_or-set_other (nexts s.nodes) _ k x 0 kt

  prev-same : (k : ℕ) → (k ≡ x → ⊥) → (k ≡ 1024 + b → ⊥) → slice_index (prev-pushed s b x) k ≡ slice_index (prevs s.nodes) k
  prev-same k kx kz = get_or-set_other _ (1024 + b) k x 0 kz ∙ get_or-set_other (prevs s.nodes) x k _ 0 kx

  push-ties : (k : ℕ) → k < 64 → Linked (λ i. slice_index (next-pushed s b x) i) (λ i. slice_index (prev-pushed s b x) i) (1024 + k) (pushed s b x k) (1024 + k)
  push-ties k l =
      ⊎_elim
      (λ (e : k ≡ b). subst (λ q. Linked (λ i. slice_index (next-pushed s b x) i) (λ i. slice_index (prev-pushed s b x) i) (1024 + q) (pushed s b x q) (1024 + q)) (sym e) here)
      (λ (ne : k ≡ b → ⊥).
      subst (λ q. Linked (λ i. slice_index (next-pushed s b x) i) (λ i. slice_index (prev-pushed s b x) i) (1024 + k) q (1024 + k)) (sym (cond-false (k == b) (row s k ++ x ∷ []) (row s k) (ne_eqb k b ne)))
      (frame _ _ _ _ (1024 + k) (row s k) (1024 + k) (known s k l)
      (λ j i. next-same j (nodes-apart s b k _ j bb l ne last-node i) (differ ((1024 + k) ∷ row s k) j x i (new-out k l)))
      (λ j i. prev-same j (differ ((1024 + k) ∷ row s k) j x i (new-out k l)) (nodes-apart s b k (1024 + b) j bb l ne (or_left _ _ (eq-eqb (1024 + b) (1024 + b) refl)) i))))
      (cases_eq k b)
    where
      here : Linked (λ i. slice_index (next-pushed s b x) i) (λ i. slice_index (prev-pushed s b x) i) (1024 + b) (pushed s b x b) (1024 + b)
      here =
          subst (λ q. Linked (λ i. slice_index (next-pushed s b x) i) (λ i. slice_index (prev-pushed s b x) i) (1024 + b) q (1024 + b)) (sym (cond-true (b == b) (row s b ++ x ∷ []) (row s b) (eq-eqb b b refl)))
          (extend (λ i. slice_index (nexts s.nodes) i) (λ i. slice_index (prevs s.nodes) i) (λ i. slice_index (next-pushed s b x) i) (λ i. slice_index (prev-pushed s b x) i) (1024 + b) x
          (get_or-set_other _ x _ (1024 + b) 0 last-old ∙ get_or-set_same (nexts s.nodes) _ x 0 (omega (arith, last-below, links-many s)))
          (get_or-set_other _ (1024 + b) x x 0 (omega arith) ∙ get_or-set_same (prevs s.nodes) x _ 0 (omega (arith, backs-many s)))
          (get_or-set_same _ x (1024 + b) 0 (simp length-set (omega (arith, links-many s))))
          (get_or-set_same _ (1024 + b) x 0 (simp length-set (omega (arith, backs-many s))))
          next-same prev-same
          (1024 + b) (row s b) (known s b bb) (s.once b bb) (end-out (row s b) (1024 + b) (s.once b bb) (omega arith)) (end-out (row s b) (1024 + b) (s.once b bb) (omega arith)) (new-out b bb))

  push-once : (k : ℕ) → k < 64 → proper (pushed s b x k) ≡ true
  push-once k l =
      let more = proper-push (row s k) x (s.once k l) xb (gone k l) in
      let old = s.once k l in
      ⊎_elim
      (λ (e : k ≡ b). ap proper (cond-true (k == b) (row s k ++ x ∷ []) (row s k) (eq-eqb k b e)) ∙ more)
      (λ (ne : k ≡ b → ⊥). ap proper (cond-false (k == b) (row s k ++ x ∷ []) (row s k) (ne_eqb k b ne)) ∙ old)
      (cases_eq k b)

  push-homes : (k : ℕ) → k < 64 → (j : ℕ) → holds (pushed s b x k) j ≡ is_home (slice_index_or (set s.home x (Some b)) j None) k
  push-homes k l j =
      let at = home-set s.home x (Some b) (omega (arith, s.sized.1)) j k in
      let was = s.homes k l j in
      let more = holds-push (row s k) x j in
      ⊎_elim
      (λ (e : k ≡ b). ap (λ q. holds q j) (cond-true (k == b) (row s k ++ x ∷ []) (row s k) (eq-eqb k b e)) ∙ grind (arith, nat_tests))
      (λ (ne : k ≡ b → ⊥).
      let out : j ≡ x → holds (row s k) j ≡ false = λ e. ap (holds (row s k)) e ∙ gone k l in
      ap (λ q. holds q j) (cond-false (k == b) (row s k ++ x ∷ []) (row s k) (ne_eqb k b ne)) ∙ grind (arith, nat_tests))
      (cases_eq k b)

  last-is : last-of ≡ slice_index (prevs s.nodes) (1024 + b)
  last-is = prev_at s (1024 + b) no_node (omega arith)

  pub last-below-of : last-of < 1088
  last-below-of = omega (arith, last-is, last-below)

  nexts-are : nexts nodes-pushed ≡ next-pushed s b x
  nexts-are = nexts-pushed s.nodes last-of x (1024 + b) _ _ _ no_node refl ∙ ap (λ q. set (set (nexts s.nodes) q x) x (1024 + b)) last-is

  prevs-are : prevs nodes-pushed ≡ prev-pushed s b x
  prevs-are = prevs-pushed s.nodes last-of x (1024 + b) _ _ _ no_node refl ∙ ap (λ q. set (set (prevs s.nodes) x q) (1024 + b) x) last-is

  pub push-settled : Settled (nexts nodes-pushed) (prevs nodes-pushed) (set s.home x (Some b)) (pushed s b x)
  push-settled =
      subst (λ ns. Settled ns (prevs nodes-pushed) (set s.home x (Some b)) (pushed s b x)) (sym nexts-are)
      (subst (λ ps. Settled (next-pushed s b x) ps (set s.home x (Some b)) (pushed s b x)) (sym prevs-are)
      (settled (next-pushed s b x) (prev-pushed s b x) (set s.home x (Some b)) (pushed s b x) push-ties push-once push-homes))

  pub push-rows : (k : ℕ) → k < 64 → row_of (nexts nodes-pushed) k ≡ pushed s b n.index k
  push-rows k l = push-settled.are k l ∙ ap (λ y. pushed s b y k) is

  push-out : (o : Option ℕ) → slice_index_or s.home x None ≡ o → is_some o ≡ false
  push-out None e = refl
  push-out (Some c) e = absurd (both_ways _ (gone c (s.within x c e)) (s.homes c (s.within x c e) x ∙ ap (λ q. is_home q c) e ∙ eq-eqb c c refl))

  pub push-counts : count_below (λ k. is_some (slice_index_or (set s.home x (Some b)) k None)) 1024 ≡ count_below (λ k. is_some (slice_index_or s.home k None)) 1024 + 1
  push-counts =
      count-one (λ k. is_some (slice_index_or s.home k None)) (λ k. is_some (slice_index_or (set s.home x (Some b)) k None)) x 1024
      (push-out (slice_index_or s.home x None) refl)
      (λ k. let at = some-set s.home x (Some b) (omega (arith, s.sized.1)) k in grind (arith, nat_tests))
      xb

  pub push-within : (k : ℕ) → ForSome (slice_index_or (set s.home x (Some b)) k None) (λ c. c < 64)
  push-within = within-set s.home x (Some b) (omega (arith, s.sized.1)) (λ c e. let same : b ≡ c = cc in omega arith) s.within
