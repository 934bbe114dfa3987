-- Picks, one after the other: what becomes of plan and list, and when work has come to its end.
use Rattle.std.proofs.Common.{◌≡◌, ℕ, ◌+◌, ◌<◌, ◌≤◌, true, false, nat_lt, List, [], ◌∷◌, ◌++◌, length, Some, None, refl, sym, ap, ◌∙◌, subst, append_assoc, arith}
use Rattle.std.proofs.lemmas.List.{append-nil, length-append}
use Rattle.std.proofs.lemmas.Bool.{lt-ltb, le-ltb}
use Rattle.kinds.specs.declared.kind.Kind.{Ghosts as Kind}
use Rattle.lists.specs.declared.list.CandidateList.{Ghosts as Candidates}
use Rattle.net.specs.Table.{Table}
use Rattle.runs.specs.Acts.{gives, Acts, waiting_in}
use Rattle.plans.specs.Plan.{Plan}
use Rattle.runs.specs.Scan.{after_pick, pick_acts, after_picks, picks_acts}
use Rattle.runs.specs.Calls.{Memory, last_pick, Works}
use Rattle.runs.proofs.Rows.{acts-append}

module _ {K L G : Type 0} (k : Kind K L G) (t : Table) (gateway : ℕ) (grades : List G) where
  pub after_picks-append : (p : Plan L) (xs ys : List ℕ) → after_picks k t gateway grades p (xs ++ ys) ≡ after_picks k t gateway grades (after_picks k t gateway grades p xs) ys
  unfolding after_picks
  after_picks-append p [] ys = refl
  after_picks-append p (x ∷ xs) ys = after_picks-append (after_pick k t gateway grades p x) xs ys

  pub picks_acts-append : (p : Plan L) (xs ys : List ℕ)
      → picks_acts k t gateway grades p (xs ++ ys) ≡ picks_acts k t gateway grades p xs ++ picks_acts k t gateway grades (after_picks k t gateway grades p xs) ys
  unfolding after_picks picks_acts
  picks_acts-append p [] ys = refl
  picks_acts-append p (x ∷ xs) ys =
      let q = after_pick k t gateway grades p x in
      ap (λ acts. gives p.labels (Some x) ∷ acts)
      (ap (λ acts. pick_acts k t gateway grades p x ++ acts) (picks_acts-append q xs ys)
      ∙ sym (append_assoc (pick_acts k t gateway grades p x) (picks_acts k t gateway grades q xs) (picks_acts k t gateway grades (after_picks k t gateway grades q xs) ys)))

module _ {S K L G : Type 0} (k : Kind K L G) (c : Candidates S K L G) (t : Table) (gateway : ℕ) (grades : List G) where
  -- so many picks have led from plan p and list s to plan q and list u
  pub record Picked (p : Plan L) (s : S) (made : ℕ) (q : Plan L) (u : S) : Type 0 where
    pub picks : List ℕ
    pub counted : made ≡ length picks
    pub plan : q ≡ after_picks k t gateway grades p picks
    pub list : Acts c s (picks_acts k t gateway grades p picks) u

module _ {S K L G : Type 0} {k : Kind K L G} {c : Candidates S K L G} {t : Table} {gateway : ℕ} {grades : List G} {p : Plan L} {s : S} where
  pub picked-none : Picked k c t gateway grades p s 0 p s
  unfolding after_picks picks_acts
  picked-none = record { picks = []; counted = refl; plan = refl; list = refl }

  -- one pick more
  pub picked-next : {made : ℕ} {q : Plan L} {u : S} (x : ℕ) (taken : S) (r : Plan L) (v : S) → c.picked u q.labels (Some x) taken
      → r ≡ after_pick k t gateway grades q x → Acts c taken (pick_acts k t gateway grades q x) v
      → Picked k c t gateway grades p s made q u → Picked k c t gateway grades p s (made + 1) r v
  unfolding after_picks picks_acts
  picked-next {made} {q} {u} x taken r v pick planned acts w =
      let one : Acts c u (picks_acts k t gateway grades q (x ∷ [])) v = (taken, pick, subst (λ row. Acts c taken row v) (sym (append-nil (pick_acts k t gateway grades q x))) acts) in
      record {
        picks = w.picks ++ x ∷ [];
        counted = ap (λ n. n + 1) w.counted ∙ sym (length-append w.picks (x ∷ []));
        plan = planned ∙ ap (λ r. after_pick k t gateway grades r x) w.plan ∙ sym (after_picks-append k t gateway grades p w.picks (x ∷ []));
        list = rw picks_acts-append (acts-append c s (picks_acts k t gateway grades p w.picks) (picks_acts k t gateway grades (after_picks k t gateway grades p w.picks) (x ∷ [])) u v
            w.list (rw w.plan at one));
      }

module _ {S K L G : Type 0} {k : Kind K L G} {c : Candidates S K L G} {t : Table} where
  -- the last pick, if there is one more, leads to list v
  ended : {m : Memory L G S} {allowed made : ℕ} {q : Plan L} {u : S} (told waiting : ℕ) (v : S) → told ≡ made → made ≤ allowed
      → waiting ≡ waiting_in c v → (w : Picked k c t m.gateway m.grades m.plan m.list made q u) → Acts c u (last_pick k c t allowed w.picks q.labels) v
      → Works k c t m allowed told waiting (record m { plan = q; list = v })
  ended {m} {allowed} {made} {q} {u} told waiting v is few left w last = record {
    book = (refl, refl);
    grades = refl;
    picks = w.picks;
    within = omega (arith, w.counted, few);
    plan = w.plan;
    list = acts-append c m.list (picks_acts k t m.gateway m.grades m.plan w.picks) (last_pick k c t allowed w.picks q.labels) u v w.list last;
    counted = is ∙ w.counted;
    left = left;
  }

  -- the list answered nothing before the allowance was spent
  pub works-idle : {m : Memory L G S} {allowed made : ℕ} {q : Plan L} {u : S} (told waiting : ℕ) (v : S) → told ≡ made → made < allowed → c.picked u q.labels None v
      → waiting ≡ waiting_in c v → Picked k c t m.gateway m.grades m.plan m.list made q u
      → Works k c t m allowed told waiting (record m { plan = q; list = v })
  works-idle {allowed = allowed} told waiting v is below pick left w =
      let more : nat_lt (length w.picks) allowed ≡ true = lt-ltb (length w.picks) allowed (rw w.counted at below) in
      ended told waiting v is (omega arith) left w (rw more (v, pick, refl))

  -- the allowance is spent
  pub works-spent : {m : Memory L G S} {allowed made : ℕ} {q : Plan L} {u : S} (told waiting : ℕ) → told ≡ made → made ≡ allowed
      → waiting ≡ waiting_in c u → Picked k c t m.gateway m.grades m.plan m.list made q u
      → Works k c t m allowed told waiting (record m { plan = q; list = u })
  works-spent {allowed = allowed} {u = u} told waiting is spent left w =
      let over : nat_lt (length w.picks) allowed ≡ false = le-ltb (length w.picks) allowed (omega (arith, w.counted)) in
      ended told waiting u is (omega arith) left w (rw over refl)
