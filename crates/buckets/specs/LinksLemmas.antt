-- What the rows of chains hold, and when new links give the rows that are wanted.
use Rattle.std.specs.Prelude.{◌≡◌, ℕ, ◌+◌, ◌<◌, ◌≤◌, Bool, true, false, if◌then◌else◌, ◌⊎◌, List, [], ◌∷◌, length, is_some, Some, None, Option, ◌==◌, ◌≢◌, nat_eq, slice_index, slice_index_or, slice_set, refl}
use Rattle.std.specs.Option.{ForSome}
use Rattle.std.proofs.Common.{sym, ap, ◌∙◌, subst, inl, inr, ⊎_elim, arith}
use Rattle.std.proofs.lemmas.List.{get_or_past, get_or-map, length-map}
use Rattle.std.proofs.lemmas.List.FromFn.{get_or-map-range_with_len, length-map-range_with_len}
use Rattle.std.proofs.lemmas.Bool.{cases_Bool, cases_lt, eqb-true, eq-eqb, ne_eqb, or_cases, both_ways}
use Rattle.std.proofs.lemmas.Bool.Decides.{nat_tests}
use Rattle.lists.specs.Meaning.{count_below}
use Rattle.lists.specs.Stations.{holds, proper}
use Rattle.lists.specs.Counts.{count_same}
use Rattle.lists.specs.StationsLemmas.{holds-below}
use Rattle.buckets.specs.Rows.{in_rows, home_in}
use Rattle.buckets.specs.Ties.{row_of, linked, is_home}
use Rattle.buckets.specs.declared.node.Node.{Node}
use Rattle.buckets.specs.Nodes.{nexts, prevs}
use Rattle.buckets.specs.Links.{row, queues}
use Rattle.buckets.specs.declared.chains.Chains.{Chains}
use Rattle.buckets.specs.RowsLemmas.{get_d_set, in-at, in-none, in-out}
use Rattle.buckets.specs.Without.{proper-length}
use Rattle.buckets.specs.TiesLemmas.{Linked, linked-says, linked-from, chain-linked}

-- no row holds an end
pub end-out : (xs : List ℕ) (z : ℕ) → proper xs ≡ true → 1024 ≤ z → holds xs z ≡ false
end-out xs z once l = ⊎_elim (λ (i : holds xs z ≡ true). absurd (omega (arith, holds-below xs z once i))) (λ o. o) (cases_Bool (holds xs z))

abbrev pub no_node : Node
no_node = record { next = 0; prev = 0 }

-- what a home says, and what a home that was written makes of all
home-says : (o : Option ℕ) (b : ℕ) → is_home o b ≡ true → o ≡ Some b
home-says None b h = absurd (both_ways _ refl h)
home-says (Some c) b h = ap Some (eqb-true c b h)

module _ (home : List (Option ℕ)) (x : ℕ) (o : Option ℕ) (l : x < length home) where
  pub home-set : (j b : ℕ) → is_home (slice_index_or (slice_set home x o) j None) b ≡ (if j == x then is_home o b else is_home (slice_index_or home j None) b)
  home-set j b = ap (λ q. is_home q b) (get_d_set home x o j None l) ∙ either (j == x)
    where
      either : (t : Bool) → is_home (if t then o else slice_index_or home j None) b ≡ (if t then is_home o b else is_home (slice_index_or home j None) b)
      either true = refl
      either false = refl

  pub some-set : (j : ℕ) → is_some (slice_index_or (slice_set home x o) j None) ≡ (if j == x then is_some o else is_some (slice_index_or home j None))
  some-set j = ap is_some (get_d_set home x o j None l) ∙ either (j == x)
    where
      either : (t : Bool) → is_some (if t then o else slice_index_or home j None) ≡ (if t then is_some o else is_some (slice_index_or home j None))
      either true = refl
      either false = refl

  -- homes below 64 stay so
  pub within-set : ForSome o (λ b. b < 64) → ((k : ℕ) → ForSome (slice_index_or home k None) (λ b. b < 64)) → (k : ℕ) → ForSome (slice_index_or (slice_set home x o) k None) (λ b. b < 64)
  within-set new old k = subst (λ q. ForSome q (λ b. b < 64)) (sym (get_d_set home x o k None l)) (either (k == x))
    where
      either : (t : Bool) → ForSome (if t then o else slice_index_or home k None) (λ b. b < 64)
      either true = new
      either false = old k

module _ (s : Chains) where
  pub links-many : length (nexts s.nodes) ≡ 1088
  links-many = length-map s.nodes (λ (n : Node). n.next) ∙ s.sized.0

  pub backs-many : length (prevs s.nodes) ≡ 1088
  backs-many = length-map s.nodes (λ (n : Node). n.prev) ∙ s.sized.0

  pub next_at : (i : ℕ) (d : Node) → i < 1088 → (slice_index_or s.nodes i d).next ≡ slice_index (nexts s.nodes) i
  next_at i d l = sym (get_or-map (λ (n : Node). n.next) s.nodes i d 0 (omega (arith, l, s.sized.0)))

  pub prev_at : (i : ℕ) (d : Node) → i < 1088 → (slice_index_or s.nodes i d).prev ≡ slice_index (prevs s.nodes) i
  prev_at i d l = sym (get_or-map (λ (n : Node). n.prev) s.nodes i d 0 (omega (arith, l, s.sized.0)))

  pub rows-below : (b x : ℕ) → b < 64 → holds (row s b) x ≡ true → x < 1024
  rows-below b x l i = holds-below (row s b) x (s.once b l) i

  pub home_of : (b x : ℕ) → b < 64 → holds (row s b) x ≡ true → slice_index_or s.home x None ≡ Some b
  home_of b x l i = home-says (slice_index_or s.home x None) b (sym (s.homes b l x) ∙ i)

  pub rows_apart : (b k x : ℕ) → b < 64 → k < 64 → holds (row s b) x ≡ true → holds (row s k) x ≡ true → b ≡ k
  rows_apart b k x l m i j = let e = sym (home_of b x l i) ∙ home_of k x m j in cc

  pub rows_other : (b k x : ℕ) → b < 64 → k < 64 → (k ≢ b) → holds (row s b) x ≡ true → holds (row s k) x ≡ false
  rows_other b k x l m ne i = s.homes k m x ∙ ap (λ o. is_home o k) (home_of b x l i) ∙ ne_eqb b k (λ e. ne (sym e))

  pub queue-at : (b : ℕ) → b < 64 → slice_index_or (queues s) b [] ≡ row s b
  unfolding queues
  queue-at b l = get_or-map-range_with_len (row s) 0 64 b b [] l (omega arith)

  pub queues-many : length (queues s) ≡ 64
  unfolding queues
  queues-many = length-map-range_with_len (row s) 0 64

  -- (nothing cites it today)
  pub in-queues : (b x : ℕ) → b < 64 → holds (row s b) x ≡ true → in_rows (queues s) x ≡ true
  in-queues b x l i = in-at (queues s) b x (ap (λ q. holds q x) (queue-at b l) ∙ i)

  pub out-queues : (x : ℕ) → in_rows (queues s) x ≡ false → (k : ℕ) → k < 64 → holds (row s k) x ≡ false
  out-queues x out k l = ap (λ q. holds q x) (sym (queue-at k l)) ∙ in-out (queues s) k x out

  -- the home of a station is the one chain that holds it
  pub homed : (x b : ℕ) → slice_index_or s.home x None ≡ Some b → (k : ℕ) → holds (slice_index_or (queues s) k []) x ≡ (k == b)
  homed x b e k =
      let l : b < 64 = s.within x b e in
      ⊎_elim
      (λ (m : k < 64). ap (λ q. holds q x) (queue-at k m) ∙ s.homes k m x ∙ ap (λ o. is_home o k) e ∙ grind (arith, nat_tests))
      (λ (g : 64 ≤ k). ap (λ q. holds q x) (get_or_past (queues s) k [] (omega (arith, queues-many))) ∙ sym (ne_eqb k b (omega arith)))
      (cases_lt k 64)

  pub home-is : (x : ℕ) (o : Option ℕ) → slice_index_or s.home x None ≡ o → home_in (queues s) x o
  home-is x None e =
      in-none (queues s) x (λ b l. let m : b < 64 = omega (arith, queues-many) in ap (λ q. holds q x) (queue-at b m) ∙ s.homes b m x ∙ ap (λ o. is_home o b) e)
  home-is x (Some b) e = homed x b e

  pub in-home : (x : ℕ) → in_rows (queues s) x ≡ is_some (slice_index_or s.home x None)
  in-home x = at (slice_index_or s.home x None) refl
    where
      at : (o : Option ℕ) → slice_index_or s.home x None ≡ o → in_rows (queues s) x ≡ is_some o
      at None e = home-is x None e
      at (Some b) e = in-at (queues s) b x (homed x b e b ∙ eq-eqb b b refl)

  pub len-counts : s.len ≡ count_below (in_rows (queues s)) 1024
  len-counts = s.counted ∙ count_same _ _ 1024 (λ k l. sym (in-home k))

  pub known : (b : ℕ) → b < 64 → Linked (λ i. slice_index (nexts s.nodes) i) (λ i. slice_index (prevs s.nodes) i) (1024 + b) (row s b) (1024 + b)
  known b l = linked-says _ _ (1024 + b) (row s b) (1024 + b) (s.ties b l)

  -- a node of the chain b is its end, or a station at home there
  pub node-is : (b i : ℕ) → b < 64 → holds ((1024 + b) ∷ row s b) i ≡ true → (i ≡ 1024 + b) ⊎ ((i < 1024) × (slice_index_or s.home i None ≡ Some b))
  node-is b i l h =
      ⊎_elim
      (λ (e : nat_eq i (1024 + b) ≡ true). inl (eqb-true i (1024 + b) e))
      (λ (m : holds (row s b) i ≡ true). inr (rows-below b i l m, home_of b i l m))
      (or_cases (i == 1024 + b) (holds (row s b) i) h)

  pub node-below : (b i : ℕ) → b < 64 → holds ((1024 + b) ∷ row s b) i ≡ true → i < 1088
  node-below b i l h = ⊎_elim (λ (e : i ≡ 1024 + b). omega arith) (λ (m : (i < 1024) × (slice_index_or s.home i None ≡ Some b)). omega arith) (node-is b i l h)

  pub nodes-apart : (b k i j : ℕ) → b < 64 → k < 64 → (k ≢ b) → holds ((1024 + b) ∷ row s b) i ≡ true → holds ((1024 + k) ∷ row s k) j ≡ true → j ≢ i
  nodes-apart b k i j l m ne h g e =
      let same = ap (λ q. slice_index_or s.home q None) e in
      ⊎_elim
      (λ (a : i ≡ 1024 + b). ⊎_elim (λ (d : j ≡ 1024 + k). ne (omega arith)) (λ (d : (j < 1024) × (slice_index_or s.home j None ≡ Some k)). omega arith) (node-is k j m g))
      (λ (a : (i < 1024) × (slice_index_or s.home i None ≡ Some b)). ⊎_elim (λ (d : j ≡ 1024 + k). omega arith) (λ (d : (j < 1024) × (slice_index_or s.home j None ≡ Some k)). let there = sym d.1 ∙ same ∙ a.1 in ne cc) (node-is k j m g))
      (node-is b i l h)

-- the rows are the wanted ones, and the links and the homes are right
pub record Settled (next prev : List ℕ) (home : List (Option ℕ)) (want : ℕ → List ℕ) : Type 0 where
  pub are : (b : ℕ) → b < 64 → row_of next b ≡ want b
  pub tied : (b : ℕ) → b < 64 → linked (λ i. slice_index next i) (λ i. slice_index prev i) (1024 + b) (row_of next b) (1024 + b) ≡ true
  pub once : (b : ℕ) → b < 64 → proper (row_of next b) ≡ true
  pub homes : (b : ℕ) → b < 64 → (k : ℕ) → holds (row_of next b) k ≡ is_home (slice_index_or home k None) b

pub settled : (next prev : List ℕ) (home : List (Option ℕ)) (want : ℕ → List ℕ) → ((b : ℕ) → b < 64 → Linked (λ i. slice_index next i) (λ i. slice_index prev i) (1024 + b) (want b) (1024 + b)) → ((b : ℕ) → b < 64 → proper (want b) ≡ true) → ((b : ℕ) → b < 64 → (k : ℕ) → holds (want b) k ≡ is_home (slice_index_or home k None) b) → Settled next prev home want
settled next prev home want ties once homes = record {
  are = same;
  tied = λ b l. ap (λ q. linked (λ i. slice_index next i) (λ i. slice_index prev i) (1024 + b) q (1024 + b)) (same b l) ∙ linked-from _ _ (1024 + b) (want b) (1024 + b) (ties b l);
  once = λ b l. ap proper (same b l) ∙ once b l;
  homes = λ b l k. ap (λ q. holds q k) (same b l) ∙ homes b l k;
}
  where
    same : (b : ℕ) → b < 64 → row_of next b ≡ want b
    same b l = chain-linked next (λ i. slice_index prev i) (1024 + b) (want b) (1024 + b) 1024 (ties b l) (once b l) (omega arith) (proper-length (want b) (once b l))
