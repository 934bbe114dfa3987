-- The two queues of a threshold list stay apart, and the laws of its order: a threshold loosened to the best label of the second queue, carried over
-- the step, lets a station pass, so that a pick finds one wherever one waits.
use Rattle.std.proofs.Common.{◌≡◌, ℕ, Bool, true, false, not, ◌&&◌, ◌||◌, List, [], ◌∷◌, ◌++◌, Some, filter, Option, unwrap_or, sym, refl, ap, ◌∙◌, subst, ⊎_elim, arith, if◌then◌else◌, ◌==◌}
use Rattle.std.specs.Option.{option_map}
use Rattle.std.specs.List.{slice_get}
use Rattle.std.proofs.lemmas.Bool.{cases_eq, cases_Bool, both_ways, cond-true, cond-false, or_cases}
use Rattle.std.proofs.lemmas.Bool.Decides.{nat_tests}
use Rattle.kinds.specs.declared.kind.Kind.{Ghosts}
use Rattle.kinds.specs.Laws.{Laws}
use Rattle.lists.specs.Order.{OrderLaws, Takes}
use Rattle.lists.specs.Stations.{holds, proper, Apart, top_of, rest_of}
use Rattle.lists.specs.Thresholds.{TwoQueues, passes, best_label, loosened, parted, refilled, readied, to_first, to_second, in_either, top_taken, threshold}
use Rattle.lists.specs.StationsLemmas.{holds-push, holds-head, holds-below, holds-rest, proper-parts, proper-top}
use Rattle.lists.specs.Bests.{best-held, passes-own}
use Rattle.lists.specs.Partings.{holds_kept}

module _ (xs ys : List ℕ) (apart : Apart xs ys) (x : ℕ) where
  -- a station that is in neither joins one of them
  pub apart-first : holds ys x ≡ false → (zs : List ℕ) → zs ≡ xs ++ x ∷ [] → Apart zs ys
  apart-first out zs e k h =
      let held : (k == x || holds xs k) ≡ true = sym (ap (λ l. holds l k) e ∙ holds-push xs x k) ∙ h in
      let old = apart k in
      ⊎_elim (λ (eq : k ≡ x). ap (holds ys) eq ∙ out) (λ (ne : k ≡ x → ⊥). grind (arith, nat_tests)) (cases_eq k x)

  pub apart-second : holds xs x ≡ false → (zs : List ℕ) → zs ≡ ys ++ x ∷ [] → Apart xs zs
  apart-second out zs e k h =
      let held : holds zs k ≡ (k == x || holds ys k) = ap (λ l. holds l k) e ∙ holds-push ys x k in
      let old = apart k h in
      ⊎_elim
      (λ (eq : k ≡ x). absurd (both_ways (holds xs k) (ap (holds xs) eq ∙ out) h))
      (λ (ne : k ≡ x → ⊥). grind (arith, nat_tests)) (cases_eq k x)

-- what passes a test is apart from what does not
pub apart-parted : (p : ℕ → Bool) (line xs ys : List ℕ) → xs ≡ filter p line → ys ≡ filter (λ x. not (p x)) line → Apart xs ys
apart-parted p line xs ys e f k h =
    let a : holds xs k ≡ (holds line k && p k) = ap (λ l. holds l k) e ∙ holds_kept p line k in
    let b : holds ys k ≡ (holds line k && not (p k)) = ap (λ l. holds l k) f ∙ holds_kept (λ x. not (p x)) line k in
    grind (arith, nat_tests)

-- and both together are the whole
either-parted : (p : ℕ → Bool) (line : List ℕ) (k : ℕ) → (holds (filter p line) k || holds (filter (λ x. not (p x)) line) k) ≡ holds line k
either-parted p line k =
    let a = holds_kept p line k in
    let b = holds_kept (λ x. not (p x)) line k in
    grind (arith, nat_tests)

proper-kept : (p : ℕ → Bool) (xs : List ℕ) → proper xs ≡ true → proper (filter p xs) ≡ true
proper-kept p [] ok = refl
proper-kept p (x ∷ xs) ok =
    let a = proper-parts x xs ok in
    let rest = proper-kept p xs a.2 in
    let out : holds (filter p xs) x ≡ false = holds_kept p xs x ∙ ap (λ b. b && p x) a.1 in
    ⊎_elim
    (λ (e : p x ≡ true). ap proper (cond-true (p x) (x ∷ filter p xs) (filter p xs) e) ∙ proper-top x (filter p xs) rest a.0 out)
    (λ (e : p x ≡ false). ap proper (cond-false (p x) (x ∷ filter p xs) (filter p xs) e) ∙ rest)
    (cases_Bool (p x))

-- where a station of the list passes, the list of those that pass is not empty
kept-some : (p : ℕ → Bool) (xs : List ℕ) (x : ℕ) → holds xs x ≡ true → p x ≡ true → filter p xs ≡ [] → ⊥
kept-some p xs x h e n =
    both_ways (holds (filter p xs) x) (ap (λ l. holds l x) n) (holds_kept p xs x ∙ grind (arith, nat_tests))

module _ {K L G : Type 0} (k : Ghosts K L G) where
  -- the top of the first queue is picked: m before, and the queues from which it is taken
  takes_first : (m : TwoQueues L G) (xs ys : List ℕ) (limit : L) (step : G) → proper xs ≡ true → Apart xs ys → ((j : ℕ) → in_either k m j ≡ (holds xs j || holds ys j)) → (xs ≡ [] → (j : ℕ) → holds ys j ≡ false) → Takes (threshold k) m (record { first = rest_of xs; second = ys; limit = limit; step = step }) (top_of xs)
  takes_first m [] ys limit step ok apart same dry = λ j. (same j ∙ dry refl j, dry refl j)
  takes_first m (x ∷ xs) ys limit step ok apart same dry = (
    same x ∙ ap (λ b. b || holds ys x) (holds-head x xs),
    λ j.
        let here = same j in
        let rest = holds-rest x xs j ok in
        ⊎_elim
        (λ (eq : j ≡ x). let out : holds ys j ≡ false = ap (holds ys) eq ∙ apart x (holds-head x xs) in grind (arith, nat_tests))
        (λ (ne : j ≡ x → ⊥). grind (arith, nat_tests))
        (cases_eq j x),
  )

  -- the models of a list: each station once, in one queue
  pub record Sound (m : TwoQueues L G) : Type 0 where
    pub first-once : proper m.first ≡ true
    pub second-once : proper m.second ≡ true
    pub separate : Apart m.first m.second

  module _ (laws : Laws k.carry k.at_least k.rank) where
    -- where the first queue stays empty, the second is
    refill-dry : (ys : List ℕ) (ls : List L) (step : G) → filter (λ x. passes k (option_map (λ best. k.carry best step) (best_label k ls ys)) (slice_get ls x)) ys ≡ [] → ys ≡ []
    refill-dry [] ls step e = refl
    refill-dry (y ∷ ys) ls step e =
        let one = best-held k ls y ys in
        let limit = option_map (λ best. k.carry best step) (best_label k ls (y ∷ ys)) in
        absurd (kept-some (λ x. passes k limit (slice_get ls x)) (y ∷ ys) one.0 one.1.0 (ap (passes k limit) one.1.1 ∙ passes-own k laws step (best_label k ls (y ∷ ys))) e)

    takes-readied : (m : TwoQueues L G) (xs : List ℕ) (ls : List L) → m.first ≡ xs → Sound m → Takes (threshold k) m (top_taken k (readied k xs m ls)).1 (top_taken k (readied k xs m ls)).0
    takes-readied m [] ls e ok =
        let p : ℕ → Bool = λ x. passes k (loosened k m ls) (slice_get ls x) in
        takes_first m (filter p m.second) (filter (λ x. not (p x)) m.second) (unwrap_or (loosened k m ls) m.limit) m.step (proper-kept p m.second ok.second-once) (apart-parted p m.second _ _ refl refl)
        (λ j. ap (λ l. holds l j || holds m.second j) e ∙ sym (either-parted p m.second j))
        (λ dry j. let none : m.second ≡ [] = refill-dry m.second ls m.step dry in ap (λ l. holds (filter (λ x. not (p x)) l) j) none)
    takes-readied m (x ∷ xs) ls e ok =
        let P : List ℕ → Type 0 = λ l. l ≡ [] → (j : ℕ) → holds m.second j ≡ false in
        takes_first m m.first m.second m.limit m.step ok.first-once ok.separate (λ j. refl) (subst P (sym e) (λ no_top. let z : ◌≡◌ {A = ℕ} 0 1 = cc in let bad : ⊥ = omega arith in absurd bad))

    entering-holds : (m : TwoQueues L G) (x : ℕ) (b : Bool) (j : ℕ) → in_either k (if b then to_first k m x else to_second k m x) j ≡ (j == x || in_either k m j)
    entering-holds m x true j = let e = holds-push m.first x j in grind (arith, nat_tests)
    entering-holds m x false j = let e = holds-push m.second x j in grind (arith, nat_tests)

    gained-either : (m n : TwoQueues L G) (x j : ℕ) (b : Bool) → in_either k m x ≡ b → in_either k n j ≡ (j == x || in_either k m j) → in_either k (if b then m else n) j ≡ (j == x || in_either k m j)
    gained-either m n x j true here e = ⊎_elim (λ (eq : j ≡ x). let there : in_either k m j ≡ true = ap (in_either k m) eq ∙ here in grind (arith, nat_tests)) (λ (ne : j ≡ x → ⊥). grind (arith, nat_tests)) (cases_eq j x)
    gained-either m n x j false here e = e

    pub threshold-laws : OrderLaws (threshold k) Sound
    threshold-laws = record {
      below = λ m j ok h. ⊎_elim (λ e. holds-below m.first j ok.first-once e) (λ e. holds-below m.second j ok.second-once e) (or_cases _ _ h);
      clears = λ m j. refl;
      adds = λ m x ls j ok b. gained-either m _ x j (in_either k m x) refl (entering-holds m x (passes k (Some m.limit) (slice_get ls x)) j);
      takes = λ m ls ok. takes-readied m m.first ls refl ok;
    }

-- the queues after a refill, part by part
pub refilled-is : {K L G : Type 0} (k : Ghosts K L G) (m : TwoQueues L G) (ls : List L) (o : Option L) (xs ys : List ℕ) (limit : L) → o ≡ loosened k m ls → xs ≡ (parted k m ls o).first → ys ≡ (parted k m ls o).second → limit ≡ unwrap_or o m.limit → record { first = xs; second = ys; limit = limit; step = m.step } ≡ refilled k m ls
refilled-is {L = L} {G = G} k m ls o xs ys limit e f s l =
    let made : List ℕ → List ℕ → L → TwoQueues L G = λ a b c. record { first = a; second = b; limit = c; step = m.step } in
    ap (λ a. made a ys limit) f ∙ ap (λ b. made (parted k m ls o).first b limit) s ∙ ap (λ c. made (parted k m ls o).first (parted k m ls o).second c) l ∙ ap (parted k m ls) e
