-- While labels stay, what waits in the first queue passes the threshold and what waits in the second fails it, so each pick is better than what is left behind.
use Rattle.std.proofs.Common.{◌≡◌, ℕ, Bool, true, false, not, List, [], ◌∷◌, ◌++◌, Some, None, Option, unwrap_or, sym, refl, ap, ◌∙◌, subst, ⊎_elim, if◌then◌else◌, ◌==◌}
use Rattle.std.specs.List.{slice_get}
use Rattle.std.proofs.lemmas.Bool.{both_ways, eqb-true, and_parts, not-true, or_cases}
use Rattle.kinds.specs.declared.kind.Kind.{Ghosts}
use Rattle.kinds.specs.Laws.{Laws}
use Rattle.kinds.specs.Order.{Better}
use Rattle.lists.specs.Runs.{Move, enters_now, picks_now, handing, run}
use Rattle.lists.specs.Stations.{holds, top_of}
use Rattle.lists.specs.StationsLemmas.{holds-push, holds-head, in-rest}
use Rattle.lists.specs.Partings.{holds_kept}
use Rattle.lists.specs.Thresholds.{TwoQueues, passes, loosened, parted, readied, to_first, to_second, in_either, no_queues, threshold, moved, WorseBehind}

-- what holds of a station x that joins a queue, and of each that waited there
joined : (P : ℕ → Type 0) (xs : List ℕ) (x : ℕ) → P x → ((j : ℕ) → holds xs j ≡ true → P j) → (j : ℕ) → holds (xs ++ x ∷ []) j ≡ true → P j
joined P xs x here there j h =
    ⊎_elim (λ (e : (j == x) ≡ true). subst P (sym (eqb-true j x e)) here) (λ (old : holds xs j ≡ true). there j old) (or_cases (j == x) (holds xs j) (sym (holds-push xs x j) ∙ h))

top-in : (xs : List ℕ) (x : ℕ) → top_of xs ≡ Some x → holds xs x ≡ true
top-in [] x e = cc
top-in (y ∷ ys) x e = let same : y ≡ x = cc in ap (λ j. holds (j ∷ ys) x) same ∙ holds-head x ys

module _ {K L G : Type 0} (k : Ghosts K L G) (ls : List L) where
  -- each station of the first queue passes the threshold, and none of the second does
  record ByLimit (m : TwoQueues L G) : Type 0 where
    ahead : (j : ℕ) → holds m.first j ≡ true → passes k (Some m.limit) (slice_get ls j) ≡ true
    behind : (j : ℕ) → holds m.second j ≡ true → passes k (Some m.limit) (slice_get ls j) ≡ false

  -- what passes a threshold, or where there is none, passes the one that a parted queue has then
  still-passes : (limit : Option L) (old : L) (o : Option L) → passes k limit o ≡ true → passes k (Some (unwrap_or limit old)) o ≡ true
  still-passes (Some new) old o e = e
  still-passes None old None e = refl
  still-passes None old (Some a) e = absurd (both_ways false refl e)

  -- and likewise what fails both it and the one before
  still-fails : (limit : Option L) (old : L) (o : Option L) → passes k limit o ≡ false → passes k (Some old) o ≡ false → passes k (Some (unwrap_or limit old)) o ≡ false
  still-fails (Some new) old o e was = e
  still-fails None old o e was = was

  entered : (m : TwoQueues L G) (x : ℕ) → ByLimit m → ByLimit ((threshold k).entering m x ls)
  entered m x ok = by_test (in_either k m x) (passes k (Some m.limit) (slice_get ls x)) refl
    where
      -- by whether x waits already, and whether its label passes
      by_test : (b c : Bool) → passes k (Some m.limit) (slice_get ls x) ≡ c → ByLimit (if b then m else if c then to_first k m x else to_second k m x)
      by_test true c e = ok
      by_test false true e = record { ahead = joined (λ j. passes k (Some m.limit) (slice_get ls j) ≡ true) m.first x e ok.ahead; behind = ok.behind }
      by_test false false e = record { ahead = ok.ahead; behind = joined (λ j. passes k (Some m.limit) (slice_get ls j) ≡ false) m.second x e ok.behind }

  none-yet : (step : G) → ByLimit (no_queues k step)
  none-yet step = record { ahead = λ j h. absurd (both_ways false refl h); behind = λ j h. absurd (both_ways false refl h) }

  -- whichever threshold the second queue is parted at, or at none
  parted-by : (m : TwoQueues L G) (limit : Option L) → ByLimit m → ByLimit (parted k m ls limit)
  parted-by m limit ok =
      let p : ℕ → Bool = λ j. passes k limit (slice_get ls j) in
      record {
        ahead = λ j h.
            let both = and_parts (holds m.second j) (p j) (sym (holds_kept p m.second j) ∙ h) in
            still-passes limit m.limit (slice_get ls j) both.1;
        behind = λ j h.
            let both = and_parts (holds m.second j) (not (p j)) (sym (holds_kept (λ i. not (p i)) m.second j) ∙ h) in
            still-fails limit m.limit (slice_get ls j) (not-true (p j) both.1) (ok.behind j both.0);
      }

  readied-by : (m : TwoQueues L G) (xs : List ℕ) → ByLimit m → ByLimit (readied k xs m ls)
  readied-by m [] ok = parted-by m (loosened k m ls) ok
  readied-by m (x ∷ xs) ok = ok

  picked : (m : TwoQueues L G) → ByLimit m → ByLimit ((threshold k).picking m ls).1
  picked m ok =
      let n = readied-by m m.first ok in
      record { ahead = λ j h. n.ahead j (in-rest (readied k m.first m ls).first j h); behind = n.behind }

  ran : (moves : List Move) (m : TwoQueues L G) → ByLimit m → ByLimit (run (threshold k) m (handing ls moves))
  ran [] m ok = ok
  ran (enters_now x ∷ moves) m ok = ran moves ((threshold k).entering m x ls) (entered m x ok)
  ran (picks_now ∷ moves) m ok = ran moves ((threshold k).picking m ls).1 (picked m ok)

-- a label that passes a threshold is better than one that fails it
better : {K L G : Type 0} (k : Ghosts K L G) → Laws k.carry k.at_least k.rank → (a b limit : L) → k.at_least a limit ≡ true → k.at_least b limit ≡ false → Better k a b
better k laws a b limit pass fails =
    (⊎_elim (λ over. absurd (both_ways _ fails over)) (λ under. laws.trans a limit b pass under) (laws.total b limit), λ same. both_ways (k.at_least b limit) fails (ap (λ c. k.at_least c limit) (sym same) ∙ pass))

-- and what fails it was handed over
fails-known : {K L G : Type 0} (k : Ghosts K L G) (limit : L) (o : Option L) → passes k (Some limit) o ≡ false → (b : L) × ((o ≡ Some b) × (k.at_least b limit ≡ false))
fails-known k limit None fails = absurd (both_ways true fails refl)
fails-known k limit (Some b) fails = (b, (refl, fails))

pub worse_behind : {K L G : Type 0} (k : Ghosts K L G) → Laws k.carry k.at_least k.rank → (step : G) → WorseBehind k step
worse_behind k laws step ls moves x y a top left is_a =
    let m = moved k step ls moves in
    let ok = readied-by k ls m m.first (ran k ls moves (no_queues k step) (none-yet k ls step)) in
    let n = readied k m.first m ls in
    let known = fails-known k n.limit (slice_get ls y) (ok.behind y left) in
    (known.0, (known.1.0, better k laws a known.0 n.limit (ap (passes k (Some n.limit)) (sym is_a) ∙ ok.ahead x (top-in n.first x top)) known.1.1))
