-- The order in which stations leave: as they entered from a first-in list; from a two-ended list one that is back first; from a small-label-first list one that is at least as good as all that came in.
use Rattle.std.proofs.Common.{◌≡◌, ℕ, ◌<◌, Bool, true, false, ◌||◌, List, [], ◌∷◌, ◌++◌, length, map, replicate, slice_index_or, slice_set, Some, None, Option, sym, refl, ap, ◌∙◌, ⊎_elim, arith, append_assoc, get_or-set_same, get_or-set_other, length-set, if◌then◌else◌, ◌==◌}
use Rattle.std.specs.List.{slice_get}
use Rattle.std.proofs.Math.Bool.{or-false}
use Rattle.std.proofs.lemmas.List.{append-nil, get_or-replicate, length-replicate}
use Rattle.std.proofs.lemmas.Bool.{both_ways, cases_eq, cond-false, or_cases, or_left, or_right, eq-eqb, ne_eqb}
use Rattle.kinds.specs.declared.kind.Kind.{Ghosts}
use Rattle.kinds.specs.Laws.{Laws}
use Rattle.kinds.specs.Order.{AtLeast}
use Rattle.lists.specs.Runs.{Step, enter, pick, enters, enters_now, handing, answered, run, entries, picks}
use Rattle.lists.specs.Stations.{holds, top_of, rest_of}
use Rattle.lists.specs.FirstIns.{first_in, InOrder}
use Rattle.lists.specs.TwoEndeds.{TwoEnds, no_ends, to_its_end, two_ended, BackOnTop}
use Rattle.lists.specs.SmallLabels.{as_good, goes_first, small_label, BestOfNew}
use Rattle.lists.specs.StationsLemmas.{in-rest}
use Rattle.lists.specs.Lines.{gained, at-end}

-- one more at the bottom of the queue is one more that entered
joins : (b : Bool) (q : List ℕ) (x : ℕ) (es ps : List ℕ) → (if b then q else q ++ x ∷ []) ++ es ≡ ps → q ++ (if b then es else x ∷ es) ≡ ps
joins true q x es ps e = e
joins false q x es ps e = sym (append_assoc q (x ∷ []) es) ∙ e

-- and one less on top is one more that was picked
leaves : (q es ps rest : List ℕ) → rest_of q ++ es ≡ ps ++ rest → q ++ es ≡ answered (top_of q) ps ++ rest
leaves [] es ps rest e = e
leaves (y ∷ ys) es ps rest e = ap (λ l. y ∷ l) e

-- from any queue
in-order-from : {A : Type 0} (q : List ℕ) (steps : List (Step A)) → q ++ entries first_in q steps ≡ picks first_in q steps ++ run first_in q steps
in-order-from q [] = append-nil q
in-order-from q (enter x ls ∷ steps) = joins (holds q x) q x _ _ (in-order-from (if holds q x then q else q ++ x ∷ []) steps)
in-order-from q (pick ls ∷ steps) = leaves q _ _ _ (in-order-from (rest_of q) steps)

pub in-order : (A : Type 0) → InOrder A
in-order A steps = in-order-from [] steps

module _ (x : ℕ) where
  -- the station x has a place among the marks, and its mark is set if it waits
  record Marked (m : TwoEnds) : Type 0 where
    small : x < length m.seen
    waited : holds m.line x ≡ true → slice_index_or m.seen x false ≡ true

  -- after y entered, x is marked if it is y or was marked
  mark-of : (m : TwoEnds) (y : ℕ) (b : Bool) → Marked m → holds m.line y ≡ b → slice_index_or (if b then m else to_its_end m y).seen x false ≡ (x == y || slice_index_or m.seen x false)
  mark-of m y true ok here =
      ⊎_elim
      (λ (e : x ≡ y). ok.waited (ap (holds m.line) e ∙ here) ∙ sym (or_left (x == y) _ (eq-eqb x y e)))
      (λ (ne : x ≡ y → ⊥). sym (ap (λ b. b || slice_index_or m.seen x false) (ne_eqb x y ne)))
      (cases_eq x y)
  mark-of m y false ok here =
      ⊎_elim
      (λ (e : x ≡ y).
      ap (λ j. slice_index_or (slice_set m.seen j true) x false) (sym e) ∙ get_or-set_same m.seen x true false ok.small ∙ sym (or_left (x == y) _ (eq-eqb x y e)))
      (λ (ne : x ≡ y → ⊥). get_or-set_other m.seen y x true false ne ∙ sym (ap (λ b. b || slice_index_or m.seen x false) (ne_eqb x y ne)))
      (cases_eq x y)

  marked_entering : (m : TwoEnds) (y : ℕ) (b : Bool) → Marked m → holds m.line y ≡ b → Marked (if b then m else to_its_end m y)
  marked_entering m y true ok here = ok
  marked_entering m y false ok here = record {
    small = omega (arith, ok.small, length-set m.seen y true);
    waited = λ h.
        let had : (x == y || holds m.line x) ≡ true = sym (at-end (slice_index_or m.seen y false) m.line y x) ∙ h in
        mark-of m y false ok here ∙
        ⊎_elim (λ e. or_left (x == y) _ e) (λ e. or_right (x == y) _ (ok.waited e)) (or_cases _ _ had);
  }

  -- after a run, x is marked if it entered on the way or was marked
  marked-by : {A : Type 0} (m : TwoEnds) (steps : List (Step A)) → Marked m → slice_index_or (run two_ended m steps).seen x false ≡ (enters x steps || slice_index_or m.seen x false)
  marked-by m [] ok = refl
  marked-by m (enter y ls ∷ steps) ok =
      let rest = marked-by (if holds m.line y then m else to_its_end m y) steps (marked_entering m y (holds m.line y) ok refl) in
      let mark = mark-of m y (holds m.line y) ok refl in
      rest ∙ ap (λ b. enters x steps || b) mark ∙ swapped (enters x steps) (x == y) (slice_index_or m.seen x false)
    where
      swapped : (a b c : Bool) → (a || (b || c)) ≡ ((b || a) || c)
      swapped true true c = refl
      swapped true false c = refl
      swapped false true c = refl
      swapped false false c = refl
  marked-by m (pick ls ∷ steps) ok =
      marked-by (record { line = rest_of m.line; seen = m.seen }) steps (record { small = ok.small; waited = λ h. ok.waited (in-rest m.line x h) })

pub back_on_top : (A : Type 0) → BackOnTop A
back_on_top A steps x ls small out =
    let m : TwoEnds = run two_ended no_ends steps in
    let none : slice_index_or (replicate 1024 false) x false ≡ false = get_or-replicate 1024 x false false small in
    let marks = marked-by x no_ends steps (record { small = omega (arith, small, length-replicate {A = Bool} 1024 false); waited = λ h. absurd (both_ways false refl h) }) in
    let entered : slice_index_or m.seen x false ≡ enters x steps = marks ∙ ap (λ b. enters x steps || b) none ∙ or-false (enters x steps) in
    ap (λ (n : TwoEnds). n.line) (cond-false (holds m.line x) m (to_its_end m x) out) ∙ ap (λ b. if b then x ∷ m.line else m.line ++ x ∷ []) entered

module _ {K L G : Type 0} (k : Ghosts K L G) (laws : Laws k.carry k.at_least k.rank) (ls : List L) where
  -- the top is at least as good as the label a, where its own is there
  abbrev Beats : List ℕ → L → Type 0
  Beats [] a = ⊥
  Beats (t ∷ ts) a = (b : L) → slice_get ls t ≡ Some b → AtLeast k b a

  -- both labels are there, and the first is at least as good
  both-there : (o p : Option L) (c : L) → o ≡ Some c → as_good k.at_least o p ≡ true → (b : L) × ((p ≡ Some b) × AtLeast k c b)
  both-there None p c e h = absurd (both_ways false refl h)
  both-there (Some d) None c e h = absurd (both_ways false refl h)
  both-there (Some d) (Some b) c e h = let same : d ≡ c = cc in (b, (refl, ap (λ l. k.at_least l b) (sym same) ∙ h))

  -- a station that does not go above one whose label is there is no better
  no-better : (o p : Option L) (a b : L) → o ≡ Some a → p ≡ Some b → as_good k.at_least o p ≡ false → AtLeast k b a
  no-better o p a b e f h =
      let worse : k.at_least a b ≡ false = ap (λ i. as_good k.at_least i (Some b)) (sym e) ∙ ap (as_good k.at_least o) (sym f) ∙ h in
      ⊎_elim (λ good. absurd (both_ways (k.at_least a b) worse good)) (λ good. good) (laws.total a b)

  reflexive : (a b : L) → Some b ≡ Some a → AtLeast k b a
  reflexive a b e = let same : b ≡ a = cc in ap (λ c. k.at_least c a) same ∙ ⊎_elim (λ h. h) (λ h. h) (laws.total a a)

  -- the queue after x entered, by whether it waited and whether it goes above
  abbrev queue_with : Bool → Bool → List ℕ → ℕ → List ℕ
  queue_with held first q x = if held then q else if first then x ∷ q else q ++ x ∷ []

  -- a label that is beaten stays so when x enters
  still-beats : (held first : Bool) (q : List ℕ) (x : ℕ) (a : L) → goes_first k.at_least ls x q ≡ first → Beats q a → Beats (queue_with held first q x) a
  still-beats held first [] x a e h = absurd h
  still-beats true first (t ∷ ts) x a e h = h
  still-beats false false (t ∷ ts) x a e h = h
  still-beats false true (t ∷ ts) x a e h =
      λ c is. let top = both-there (slice_get ls x) (slice_get ls t) c is e in laws.trans c top.0 a top.1.1 (h top.0 top.1.0)

  -- and the label of x is beaten too
  beats-new : (held first : Bool) (q : List ℕ) (x : ℕ) (a : L) → goes_first k.at_least ls x q ≡ first → held ≡ false → slice_get ls x ≡ Some a → Beats (queue_with held first q x) a
  beats-new true first q x a e out is = absurd (both_ways true out refl)
  beats-new false true q x a e out is = λ b there. reflexive a b (sym there ∙ is)
  beats-new false false [] x a e out is = λ b there. reflexive a b (sym there ∙ is)
  beats-new false false (t ∷ ts) x a e out is = λ b there. no-better (slice_get ls x) (slice_get ls t) a b is there e

  -- the queue after x entered with these labels, and after many did
  abbrev next_queue : List ℕ → ℕ → List ℕ
  next_queue q x = (small_label k.at_least).entering q x ls

  abbrev last_queue : List ℕ → List ℕ → List ℕ
  last_queue q stations = run (small_label k.at_least) q (handing ls (map enters_now stations))

  beats_on : (q stations : List ℕ) (a : L) → Beats q a → Beats (last_queue q stations) a
  beats_on q [] a h = h
  beats_on q (z ∷ zs) a h = beats_on (next_queue q z) zs a (still-beats (holds q z) _ q z a refl h)

  -- each station that comes in on the way is beaten at the end
  beats-each : (q stations : List ℕ) (x : ℕ) (a : L) → holds stations x ≡ true → holds q x ≡ false → slice_get ls x ≡ Some a → Beats (last_queue q stations) a
  beats-each q [] x a comes out is = absurd (both_ways false refl comes)
  beats-each q (z ∷ zs) x a comes out is =
      ⊎_elim
      (λ (e : x ≡ z).
      beats_on (next_queue q z) zs a (beats-new (holds q z) _ q z a refl (ap (holds q) (sym e) ∙ out) (ap (slice_get ls) (sym e) ∙ is)))
      (λ (ne : x ≡ z → ⊥).
      let not-z = ne_eqb x z ne in
      beats-each (next_queue q z) zs x a
      (ap (λ b. b || holds zs x) (sym not-z) ∙ comes)
      (gained q _ z (at-end (goes_first k.at_least ls z q) q z) x ∙ ap (λ b. b || holds q x) not-z ∙ out)
      is)
      (cases_eq x z)

  top-beats : (q : List ℕ) (y : ℕ) (a b : L) → top_of q ≡ Some y → slice_get ls y ≡ Some b → Beats q a → AtLeast k b a
  top-beats [] y a b e is h = absurd h
  top-beats (t ∷ ts) y a b e is h = let same : t ≡ y = cc in h b (ap (slice_get ls) same ∙ is)

pub best-of-new : {K L G : Type 0} (k : Ghosts K L G) → Laws k.carry k.at_least k.rank → BestOfNew k
best-of-new k laws queue stations ls x y a b comes out picked x-is y-is =
    top-beats k laws ls (last_queue k laws ls queue stations) y a b picked y-is (beats-each k laws ls queue stations x a comes out x-is)
