-- What an unlink makes of the rows: one station less.
use Rattle.std.proofs.Common.{◌≡◌, ℕ, ◌+◌, ◌<◌, true, List, ◌∷◌, is_some, Some, None, Option, set, sym, refl, ap, ◌∙◌, subst, ⊎_elim, arith, slice_index, slice_index_or}
use Rattle.std.proofs.lemmas.List.{get_or-set_same, get_or-set_other, map-set}
use Rattle.std.proofs.lemmas.Bool.{cases_eq, eq-eqb, ne_eqb, both_ways}
use Rattle.std.proofs.lemmas.Bool.Decides.{nat_tests}
use Rattle.lists.specs.Meaning.{count_below}
use Rattle.lists.specs.Stations.{holds, proper}
use Rattle.buckets.specs.Rows.{without, in_rows}
use Rattle.buckets.specs.Links.{row, queues}
use Rattle.lists.specs.declared.station.Station.{Station}
use Rattle.buckets.specs.declared.chains.Chains.{Chains}
use Rattle.lists.specs.Counts.{count-one}
use Rattle.buckets.specs.Without.{holds-without, proper-without, without-none}
use Rattle.buckets.specs.TiesLemmas.{Linked, before-held, after-held, frame, skip}
use Rattle.buckets.specs.Ties.{row_of, is_home}
use Rattle.buckets.specs.Nodes.{nexts, prevs}
use Rattle.buckets.specs.declared.node.Node.{Node}
use Rattle.std.specs.Option.{ForSome}
use Rattle.std.proofs.Math.Seq.{map-set_same}
use Rattle.buckets.specs.LinksLemmas.{no_node, next_at, prev_at, end-out, links-many, backs-many, home-set, some-set, within-set, in-home, rows-below, Settled, settled, known, node-below, nodes-apart}

abbrev pub next-less : Chains → ℕ → List ℕ
next-less s x = set (nexts s.nodes) (slice_index (prevs s.nodes) x) (slice_index (nexts s.nodes) x)

abbrev pub prev-less : Chains → ℕ → List ℕ
prev-less s x = set (prevs s.nodes) (slice_index (nexts s.nodes) x) (slice_index (prevs s.nodes) x)

-- how the two writes of an unlink come out, either way
module _ (nodes : List Node) (i j : ℕ) (m n d : Node) where
  pub nexts-less : n.next ≡ (slice_index_or (set nodes i m) j d).next → nexts (set (set nodes i m) j n) ≡ set (nexts nodes) i m.next
  nexts-less e = map-set_same (λ (n : Node). n.next) _ j n d e ∙ map-set (λ (n : Node). n.next) nodes i m

  pub prevs-less : m.prev ≡ (slice_index_or nodes i d).prev → prevs (set (set nodes i m) j n) ≡ set (prevs nodes) j n.prev
  prevs-less e = map-set (λ (n : Node). n.prev) _ j n ∙ ap (λ q. set q j n.prev) (map-set_same (λ (n : Node). n.prev) nodes i m d e)

some-is : (o : Option ℕ) → is_some o ≡ true → (b : ℕ) × (o ≡ Some b)
some-is None h = absurd (both_ways _ refl h)
some-is (Some b) h = (b, refl)

-- the station n, of the number x, leaves its chain
module _ (s : Chains) (x : ℕ) (n : Station) (is : x ≡ n.index) (held-there : in_rows (queues s) n.index ≡ true) where
  held : in_rows (queues s) x ≡ true
  held = ap (in_rows (queues s)) is ∙ held-there

  -- the nodes after the unlink
  abbrev prev-of : ℕ
  prev-of = (slice_index_or s.nodes x no_node).prev

  abbrev next-of : ℕ
  next-of = (slice_index_or s.nodes x no_node).next

  abbrev nodes-cut : List Node
  nodes-cut = set s.nodes prev-of (record { next = next-of; prev = (slice_index_or s.nodes prev-of no_node).prev })

  abbrev pub nodes-less : List Node
  nodes-less = set nodes-cut next-of (record { next = (slice_index_or nodes-cut next-of no_node).next; prev = prev-of })

  at_home : (b : ℕ) × (slice_index_or s.home x None ≡ Some b)
  at_home = some-is (slice_index_or s.home x None) (sym (in-home s x) ∙ held)

  abbrev home-now : ℕ
  home-now = at_home.0

  home-below : home-now < 64
  home-below = s.within x home-now at_home.1

  in_row : holds (row s home-now) x ≡ true
  in_row = s.homes home-now home-below x ∙ ap (λ o. is_home o home-now) at_home.1 ∙ eq-eqb home-now home-now refl

  pub gone-below : x < 1024
  gone-below = rows-below s _ x home-below in_row

  before-node : holds ((1024 + home-now) ∷ row s (home-now)) (slice_index (prevs s.nodes) x) ≡ true
  before-node = before-held (λ i. slice_index (nexts s.nodes) i) (λ i. slice_index (prevs s.nodes) i) _ _ _ (known s _ home-below) x in_row

  after-node : holds ((1024 + home-now) ∷ row s (home-now)) (slice_index (nexts s.nodes) x) ≡ true
  after-node = after-held (λ i. slice_index (nexts s.nodes) i) (λ i. slice_index (prevs s.nodes) i) _ _ _ (known s _ home-below) x in_row

  pub before-below : slice_index (prevs s.nodes) x < 1088
  before-below = node-below s _ _ home-below before-node

  pub after-below : slice_index (nexts s.nodes) x < 1088
  after-below = node-below s _ _ home-below after-node

  next-same : (k : ℕ) → (k ≡ slice_index (prevs s.nodes) x → ⊥) → slice_index (next-less s x) k ≡ slice_index (nexts s.nodes) k
  next-same k ne = get_or-set_other (nexts s.nodes) _ k _ 0 ne

  prev-same : (k : ℕ) → (k ≡ slice_index (nexts s.nodes) x → ⊥) → slice_index (prev-less s x) k ≡ slice_index (prevs s.nodes) k
  prev-same k ne = get_or-set_other (prevs s.nodes) _ k _ 0 ne

  unlink-ties : (k : ℕ) → k < 64 → Linked (λ i. slice_index (next-less s x) i) (λ i. slice_index (prev-less s x) i) (1024 + k) (without x (row s k)) (1024 + k)
  unlink-ties k l =
      ⊎_elim
      (λ (e : k ≡ home-now).
      skip (λ i. slice_index (nexts s.nodes) i) (λ i. slice_index (prevs s.nodes) i) (λ i. slice_index (next-less s x) i) (λ i. slice_index (prev-less s x) i) (1024 + k) x
      (get_or-set_same (nexts s.nodes) _ _ 0 (omega (arith, before-below, links-many s)))
      (get_or-set_same (prevs s.nodes) _ _ 0 (omega (arith, after-below, backs-many s)))
      next-same prev-same
      (1024 + k) (row s k) (known s k l) (s.once k l) (end-out (row s k) (1024 + k) (s.once k l) (omega arith)) (end-out (row s k) (1024 + k) (s.once k l) (omega arith)) (ap (λ q. holds (row s q) x) e ∙ in_row))
      (λ (ne : k ≡ home-now → ⊥).
      subst (λ q. Linked (λ i. slice_index (next-less s x) i) (λ i. slice_index (prev-less s x) i) (1024 + k) q (1024 + k))
      (sym (without-none (row s k) x (s.homes k l x ∙ ap (λ o. is_home o k) at_home.1 ∙ ne_eqb home-now k (λ g. ne (sym g)))))
      (frame _ _ _ _ (1024 + k) (row s k) (1024 + k) (known s k l)
      (λ j i. next-same j (nodes-apart s _ k _ j home-below l ne before-node i))
      (λ j i. prev-same j (nodes-apart s _ k _ j home-below l ne after-node i))))
      (cases_eq k (home-now))

  unlink-once : (k : ℕ) → k < 64 → proper (without x (row s k)) ≡ true
  unlink-once k l = proper-without (row s k) x (s.once k l)

  unlink-homes : (k : ℕ) → k < 64 → (j : ℕ) → holds (without x (row s k)) j ≡ is_home (slice_index_or (set s.home x None) j None) k
  unlink-homes k l j =
      let at = home-set s.home x None (omega (arith, s.sized.1, gone-below)) j k in
      let was = s.homes k l j in
      let less = holds-without (row s k) x j in
      grind (arith, nat_tests)

  prev-is : prev-of ≡ slice_index (prevs s.nodes) x
  prev-is = prev_at s x no_node (omega (arith, gone-below))

  next-is : next-of ≡ slice_index (nexts s.nodes) x
  next-is = next_at s x no_node (omega (arith, gone-below))

  pub prev-below : prev-of < 1088
  prev-below = omega (arith, prev-is, before-below)

  pub next-below : next-of < 1088
  next-below = omega (arith, next-is, after-below)

  nexts-are : nexts nodes-less ≡ next-less s x
  nexts-are = nexts-less s.nodes prev-of next-of _ _ no_node refl ∙ ap (λ q. set (nexts s.nodes) q next-of) prev-is ∙ ap (set (nexts s.nodes) (slice_index (prevs s.nodes) x)) next-is

  prevs-are : prevs nodes-less ≡ prev-less s x
  prevs-are = prevs-less s.nodes prev-of next-of _ _ no_node refl ∙ ap (λ q. set (prevs s.nodes) q prev-of) next-is ∙ ap (set (prevs s.nodes) (slice_index (nexts s.nodes) x)) prev-is

  pub unlink-settled : Settled (nexts nodes-less) (prevs nodes-less) (set s.home x None) (λ k. without x (row s k))
  unlink-settled =
      subst (λ ns. Settled ns (prevs nodes-less) (set s.home x None) (λ k. without x (row s k))) (sym nexts-are)
      (subst (λ ps. Settled (next-less s x) ps (set s.home x None) (λ k. without x (row s k))) (sym prevs-are)
      (settled (next-less s x) (prev-less s x) (set s.home x None) (λ k. without x (row s k)) unlink-ties unlink-once unlink-homes))

  pub unlink-rows : (k : ℕ) → k < 64 → row_of (nexts nodes-less) k ≡ without n.index (row s k)
  unlink-rows k l = unlink-settled.are k l ∙ ap (λ y. without y (row s k)) is

  pub unlink-counts : count_below (λ k. is_some (slice_index_or s.home k None)) 1024 ≡ count_below (λ k. is_some (slice_index_or (set s.home x None) k None)) 1024 + 1
  unlink-counts =
      count-one (λ k. is_some (slice_index_or (set s.home x None) k None)) (λ k. is_some (slice_index_or s.home k None)) x 1024
      (ap is_some (get_or-set_same s.home x None None (omega (arith, s.sized.1, gone-below))))
      (λ k.
      let at = some-set s.home x None (omega (arith, s.sized.1, gone-below)) k in
      let on : k ≡ x → is_some (slice_index_or s.home k None) ≡ true = λ e. ap (λ q. is_some (slice_index_or s.home q None)) e ∙ sym (in-home s x) ∙ held in
      grind (arith, nat_tests))
      gone-below

  pub unlink-within : (k : ℕ) → ForSome (slice_index_or (set s.home x None) k None) (λ c. c < 64)
  unlink-within = within-set s.home x None (omega (arith, s.sized.1, gone-below)) (λ c e. cc) s.within
