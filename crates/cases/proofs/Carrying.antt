-- What is carried out over an order is what the calls do, and a run of them.
use Rattle.std.specs.Prelude.{◌≡◌, ℕ, zero, suc, ◌<◌, ◌≤◌, Bool, true, false, if◌then◌else◌, List, [], ◌∷◌, ◌++◌, map, length, Some, None, Option, nat_lt, refl}
use Rattle.std.proofs.Common.{sym, ap, ◌∙◌, subst, ⊎_elim, arith, append_assoc}
use Rattle.std.proofs.lemmas.Bool.{cases_lt, lt-ltb, le-ltb}
use Rattle.refusals.specs.declared.book.BookFault.{BookFault}
use Rattle.kinds.specs.declared.kind.Kind.{Ghosts as Kind}
use Rattle.net.specs.Table.{Table, station_count, head_at}
use Rattle.lists.specs.Order.{Order}
use Rattle.lists.specs.declared.list.CandidateList.{Ghosts as Candidates}
use Rattle.walks.specs.Walk.{labelled}
use Rattle.runs.specs.Acts.{Act, empties, enters, gives, Acts}
use Rattle.runs.proofs.Rows.{acts-append}
use Rattle.plans.specs.Plan.{Plan, first_plan}
use Rattle.runs.specs.Scan.{links_of, takes, after_link, link_acts, links_acts, after_pick, pick_acts, after_picks, picks_acts}
use Rattle.runs.specs.Regrade.{after_regrade, regrade_acts, entering}
use Rattle.runs.specs.Calls.{Memory, Call, start, work, regrade, ask, route, Answer, Does, refuses, starts, works, regrades, asks, routes, refusal, last_pick}
use Rattle.runs.specs.Law.{Event, Run, then_call}
use Rattle.runs.specs.Ordered.{by_order}
use Rattle.cases.proofs.Carried.{from_pick, list_after, picks_within, accepted_out, judged_out, carried_out, logged, run_out}

pub acts-as : {S K L G : Type 0} (c : Candidates S K L G) (s u : S) (a b : List (Act L)) → a ≡ b → Acts c s a u → Acts c s b u
acts-as c s u a b e acts = subst (λ (x : List _). Acts c s x u) e acts

-- acts that a test which passes asks for
pub acts-if : {S K L G : Type 0} (c : Candidates S K L G) (s u : S) (a : List (Act L)) (b : Bool) → b ≡ true → Acts c s a u → Acts c s (if b then a else []) u
acts-if c s u a b e acts = subst (λ (x : Bool). Acts c s (if x then a else []) u) (sym e) acts

lt-suc : (a b : ℕ) → nat_lt (suc a) (suc b) ≡ nat_lt a b
lt-suc a b =
    ⊎_elim (λ (l : a < b). lt-ltb (suc a) (suc b) (omega arith) ∙ sym (lt-ltb a b l)) (λ (l : b ≤ a). le-ltb (suc a) (suc b) (omega arith) ∙ sym (le-ltb a b l))
    (cases_lt a b)

-- nothing but stations that enter
abbrev pub OnlyEnters : {L : Type 0} → List (Act L) → Type 0
OnlyEnters [] = Unit {0}
OnlyEnters (empties ∷ acts) = ⊥
OnlyEnters (enters x labels ∷ acts) = OnlyEnters acts
OnlyEnters (gives labels answer ∷ acts) = ⊥

pub enters-append : {L : Type 0} (a b : List (Act L)) → OnlyEnters a → OnlyEnters b → OnlyEnters (a ++ b)
enters-append [] b p q = q
enters-append (empties ∷ a) b p q = p
enters-append (enters x labels ∷ a) b p q = enters-append a b p q
enters-append (gives labels answer ∷ a) b p q = p

pub enters-map : {L : Type 0} (labels : List L) (xs : List ℕ) → OnlyEnters (map (λ x. enters x labels) xs)
enters-map labels [] = tt
enters-map labels (x ∷ xs) = enters-map labels xs

module _ {M K L G : Type 0} (k : Kind K L G) (o : Order M L) (t : Table) where
  pub acts-after : (m : M) (acts : List (Act L)) → OnlyEnters acts → Acts (by_order {K = K} {G = G} o) m acts (list_after k o t m acts)
  acts-after m [] p = refl
  acts-after m (empties ∷ acts) p = absurd p
  acts-after m (enters x labels ∷ acts) p = (o.entering m x labels, refl, acts-after (o.entering m x labels) acts p)
  acts-after m (gives labels answer ∷ acts) p = absurd p

  module _ (gateway : ℕ) (grades : List G) where
    link-enters : (p : Plan L) (x l : ℕ) → OnlyEnters (link_acts k t gateway grades p x l)
    link-enters p x l = either (takes k t gateway grades p x l)
      where
        either : (b : Bool) → OnlyEnters (if b then enters (head_at t l) (after_link k t gateway grades p x l).labels ∷ [] else [])
        either true = tt
        either false = tt

    links-enter : (p : Plan L) (x : ℕ) (ls : List ℕ) → OnlyEnters (links_acts k t gateway grades p x ls)
    unfolding links_acts
    links-enter p x [] = tt
    links-enter p x (l ∷ ls) =
        enters-append (link_acts k t gateway grades p x l) (links_acts k t gateway grades (after_link k t gateway grades p x l) x ls) (link-enters p x l)
        (links-enter (after_link k t gateway grades p x l) x ls)

    pub pick-enters : (p : Plan L) (x : ℕ) → OnlyEnters (pick_acts k t gateway grades p x)
    pick-enters p x = either (labelled p.entries x)
      where
        either : (b : Bool) → OnlyEnters (if b then links_acts k t gateway grades p x (links_of t x) else [])
        either true = links-enter p x (links_of t x)
        either false = tt

    abbrev ordered : Candidates M K L G
    ordered = by_order o

    -- few enough picks, and a list to which they lead
    abbrev Picked : ℕ → Plan L → M → List ℕ × M → Type 0
    Picked n p m made =
        (length made.0 ≤ n)
        × Acts ordered m (picks_acts k t gateway grades p made.0 ++ last_pick k ordered t n made.0 (after_picks k t gateway grades p made.0).labels) made.1

    -- one pick, answered so, and the picks after it
    one-more : (n : ℕ) (p : Plan L) (m : M) (later : ℕ → List ℕ × M) (a : Option ℕ) → (o.picking m p.labels).0 ≡ a
        → ((x : ℕ) → Picked n (after_pick k t gateway grades p x) (list_after k o t (o.picking m p.labels).1 (pick_acts k t gateway grades p x)) (later x))
        → Picked (suc n) p m (from_pick a (o.picking m p.labels).1 later)
    unfolding picks_acts after_picks
    one-more n p m later None e rest = (
      omega arith,
      acts-if ordered m (o.picking m p.labels).1 (gives p.labels None ∷ []) (nat_lt 0 (suc n)) (lt-ltb 0 (suc n) (omega arith))
          ((o.picking m p.labels).1, (sym e, refl), refl),
    )
    one-more n p m later (Some x) e rest =
        let q : Plan L = after_pick k t gateway grades p x in
        let acts : List (Act L) = pick_acts k t gateway grades p x in
        let more : List (Act L) = picks_acts k t gateway grades q (later x).0 in
        let end : List (Act L) = gives (after_picks k t gateway grades q (later x).0).labels None ∷ [] in
        let after : M = (o.picking m p.labels).1 in
        let last : Bool → List (Act L) = λ b. if b then end else [] in (
          omega (arith, (rest x).0),
          (
            after,
            (sym e, refl),
            acts-as ordered after (later x).1 (acts ++ (more ++ last (nat_lt (length (later x).0) n))) _
                (sym (append_assoc acts more (last (nat_lt (length (later x).0) n))) ∙ ap (λ b. (acts ++ more) ++ last b) (sym (lt-suc (length (later x).0) n)))
                (acts-append ordered after acts _ (list_after k o t after acts) (later x).1 (acts-after after acts (pick-enters p x)) (rest x).1),
          ),
        )

    pub picked-within : (n : ℕ) (p : Plan L) (m : M) → Picked n p m (picks_within k o t n gateway grades p m)
    unfolding picks_within picks_acts after_picks
    picked-within zero p m = (omega arith, refl)
    picked-within (suc n) p m =
        one-more n p m
        (λ x. picks_within k o t n gateway grades (after_pick k t gateway grades p x) (list_after k o t (o.picking m p.labels).1 (pick_acts k t gateway grades p x)))
        (o.picking m p.labels).0 refl
        (λ x. picked-within n (after_pick k t gateway grades p x) (list_after k o t (o.picking m p.labels).1 (pick_acts k t gateway grades p x)))

  abbrev Carried : Memory L G M → Call G → Answer L × Memory L G M → Type 0
  Carried m a r = Does k (by_order o) t m a r.0 r.1

  pub accepted_out-does : (m : Memory L G M) (a : Call G) → refusal t m a ≡ None → Carried m a (accepted_out k o t m a)
  accepted_out-does m (start g) e =
      starts e (record {
        book = (refl, refl);
        grades = refl;
        plan = refl;
        list = (o.cleared m.list, refl, (o.entering (o.cleared m.list) g (first_plan k (station_count t) g).labels, refl, refl));
      })
  accepted_out-does m (work n) e =
      let made : Picked m.gateway m.grades n m.plan m.list (picks_within k o t n m.gateway m.grades m.plan m.list) = picked-within m.gateway m.grades n m.plan m.list in
      works e (record {
        book = (refl, refl);
        grades = refl;
        picks = (picks_within k o t n m.gateway m.grades m.plan m.list).0;
        within = made.0;
        plan = refl;
        list = made.1;
        counted = refl;
        left = refl;
      })
  accepted_out-does m (regrade l x) e =
      regrades e (record {
        book = (refl, refl);
        grades = refl;
        plan = refl;
        list = acts-after m.list (regrade_acts k t m.plan l x) (enters-map (after_regrade k t m.plan l x).labels (entering k t m.plan l x));
        losses = refl;
        fresh = refl;
      })
  accepted_out-does m (ask v) e = asks e
  accepted_out-does m (route v places) e = routes e

  -- what is carried out is what the call does
  pub carried_out-does : (m : Memory L G M) (a : Call G) → Does k (by_order o) t m a (carried_out k o t m a).0 (carried_out k o t m a).1
  carried_out-does m a = judged (refusal t m a) refl
    where
      judged : (r : Option BookFault) → refusal t m a ≡ r → Carried m a (judged_out k o t r m a)
      judged None e = accepted_out-does m a e
      judged (Some f) e = refuses e

  -- and so for calls one after the other, after a run that led here
  pub run_out-runs : (from : Memory L G M) (s : List (Event L G) × Memory L G M) (calls : List (Call G)) → Run k (by_order o) t from s.0 s.1
      → Run k (by_order o) t from (run_out k o t s calls).0 (run_out k o t s calls).1
  run_out-runs from s [] run = run
  run_out-runs from s (a ∷ calls) run =
      run_out-runs from (logged s.0 a (carried_out k o t s.1 a)) calls (then_call run (carried_out-does s.1 a))
