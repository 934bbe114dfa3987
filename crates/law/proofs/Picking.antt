-- Picks keep what holds of a stretch of calls, and work that does not spend its allowance leaves no station waiting.
use Rattle.std.proofs.Common.{◌≡◌, ℕ, suc, ◌+◌, ◌<◌, Bool, true, false, if◌then◌else◌, not, ◌&&◌, nat_lt, ◌==◌, List, [], ◌∷◌, length, Some, None, refl, sym, ap, ◌∙◌, subst, inl, inr, arith}
use Rattle.std.proofs.lemmas.Bool.{cases_eq, and_parts, eqb-true, lt-ltb, not-false}
use Rattle.std.proofs.lemmas.Bool.Decides.{nat_tests}
use Rattle.kinds.specs.declared.kind.Kind.{Ghosts as Kind}
use Rattle.kinds.specs.Laws.{Laws}
use Rattle.lists.specs.Meaning.{ListLaws}
use Rattle.lists.specs.Counts.{count_none}
use Rattle.lists.specs.declared.list.CandidateList.{Ghosts as Candidates}
use Rattle.net.specs.Table.{Table, link_count, tail_at}
use Rattle.paths.specs.Lists.{In}
use Rattle.walks.specs.Walk.{labelled, entry_at}
use Rattle.plans.proofs.Labelled.{labelled_lab}
use Rattle.runs.specs.Acts.{gives, Acts}
use Rattle.runs.specs.Scan.{links_of, after_links, links_acts, after_pick, pick_acts, after_picks, picks_acts}
use Rattle.runs.specs.Calls.{Memory, Works, last_pick}
use Rattle.runs.proofs.Rows.{acts-parts}
use Rattle.law.proofs.Invariant.{Fit, View, view, Lab}
use Rattle.law.proofs.Counting.{count-left}
use Rattle.law.proofs.Relaxing.{links_kept}
use Rattle.law.proofs.Segments.{moved, memory_same, Part, Seg, with_list, same_waiting}

-- the picks of work that answer stations, and then the one that answers nothing, if there is one
work-parts : {S K L G : Type 0} (k : Kind K L G) (c : Candidates S K L G) (t : Table) (m : Memory L G S) (allowed made waiting : ℕ) (u : Memory L G S)
    → (w : Works k c t m allowed made waiting u)
    → (q : S) × Acts c m.list (picks_acts k t m.gateway m.grades m.plan w.picks) q × Acts c q (last_pick k c t allowed w.picks u.plan.labels) u.list
work-parts k c t m allowed made waiting u w =
    acts-parts c m.list (picks_acts k t m.gateway m.grades m.plan w.picks) (last_pick k c t allowed w.picks u.plan.labels) u.list w.list

module _ {S K L G : Type 0} (k : Kind K L G) (c : Candidates S K L G) (t : Table)
    (laws : Laws k.carry k.at_least k.rank) (lists : ListLaws c.waits c.emptied c.entered c.picked) (fit : Fit t) (s0 : View L G) where
  module _ (m : Memory L G S) (picks : ℕ) (seg : Seg k c t s0 m picks) (x : ℕ) (q : S) (picked : c.picked m.list m.plan.labels (Some x) q) where
    was : c.waits m.list x ≡ true
    was = lists.had m.list m.plan.labels x q picked

    now : (j : ℕ) → c.waits q j ≡ (c.waits m.list j && not (j == x))
    now = lists.takes m.list m.plan.labels x q picked

    -- x has left, and the links of `pend` are to be gone through: all of x's, if x is labelled
    left : (pend : List ℕ) → ((l : ℕ) → l < link_count t → Lab k t (view k c m) (tail_at t l) → tail_at t l ≡ x → In l pend)
        → Part k c t s0 pend (moved m m.plan q) (suc picks)
    left pend mine =
        with_list k c t s0 [] pend m picks (suc picks) q seg (λ v h. (and_parts _ _ (sym (now v) ∙ h)).0)
        (λ l in_net lab off none. elim (cases_eq (tail_at t l) x) [
          | inl e ↦ absurd (none (mine l in_net lab e))
          | inr d ↦ (stays (tail_at t l) d (now (tail_at t l)) off, λ i. i)
        ])
        (omega (arith, count-left (c.waits m.list) (c.waits q) x 1024 was now (omega (arith, seg.netted x was, fit.small))))
      where
        stays : (j : ℕ) → (j ≡ x → ⊥) → c.waits q j ≡ (c.waits m.list j && not (j == x)) → c.waits q j ≡ false → c.waits m.list j ≡ false
        stays j d e f = grind (arith, nat_tests)

    pick-at : (b : Bool) → labelled m.plan.entries x ≡ b → (u : S)
        → Acts c q (if b then links_acts k t m.gateway m.grades m.plan x (links_of t x) else []) u
        → Seg k c t s0 (moved m (if b then after_links k t m.gateway m.grades m.plan x (links_of t x) else m.plan) u) (suc picks)
    pick-at true h u acts =
        let part = left (links_of t x) (λ l in_net lab e. subst (λ y. In l (links_of t y)) e (fit.all l in_net)) in
        links_kept k c t laws lists fit s0 (suc picks) x (links_of t x) (moved m m.plan q) u (fit.only x (seg.netted x was)) (labelled_lab m.plan.entries x h) part acts
    pick-at false h u acts =
        subst (λ y. Seg k c t s0 (moved m m.plan y) (suc picks)) (sym acts)
        (left [] (λ l in_net lab e. lab (ap (entry_at m.plan.entries) e ∙ eqb-true _ _ (not-false _ h))))

    -- x is picked, and its links are gone through
    pub pick_kept : (u : S) → Acts c q (pick_acts k t m.gateway m.grades m.plan x) u
        → Seg k c t s0 (moved m (after_pick k t m.gateway m.grades m.plan x) u) (suc picks)
    pick_kept u acts = pick-at (labelled m.plan.entries x) refl u acts

  -- the stations that the list answered, one after the other
  pub picks_kept : (xs : List ℕ) (m : Memory L G S) (picks : ℕ) (u : S) → Seg k c t s0 m picks → Acts c m.list (picks_acts k t m.gateway m.grades m.plan xs) u
      → Seg k c t s0 (moved m (after_picks k t m.gateway m.grades m.plan xs) u) (length xs + picks)
  unfolding after_picks picks_acts
  picks_kept [] m picks u seg acts =
      let same : length {A = ℕ} [] + picks ≡ picks = omega arith in
      subst (λ n. Seg k c t s0 (moved m m.plan u) n) (sym same) (subst (λ y. Seg k c t s0 (moved m m.plan y) picks) (sym acts) seg)
  picks_kept (x ∷ xs) m picks u seg acts =
      let (q, picked, rest) = acts in
      let plan = after_pick k t m.gateway m.grades m.plan x in
      let (r, first, more) = acts-parts c q (pick_acts k t m.gateway m.grades m.plan x) (picks_acts k t m.gateway m.grades plan xs) u rest in
      let next = picks_kept xs (moved m plan r) (suc picks) u (pick_kept m picks seg x q picked r first) more in
      let same : length xs + suc picks ≡ length (x ∷ xs) + picks = omega arith in
      subst (λ n. Seg k c t s0 (moved m (after_picks k t m.gateway m.grades plan xs) u) n) same next

  last-at : (m : Memory L G S) (picks : ℕ) (labels : List L) (b : Bool) (u : S) → Seg k c t s0 m picks
      → Acts c m.list (if b then gives labels None ∷ [] else []) u → Seg k c t s0 (moved m m.plan u) picks
  last-at m picks labels true u seg acts =
      let (q, picked, same) = acts in
      let before = lists.none_before m.list labels q picked in
      let after = lists.none_after m.list labels q picked in
      same_waiting k c t s0 m picks u seg (λ v. ap (λ y. c.waits y v) same ∙ after v ∙ sym (before v))
  last-at m picks labels false u seg acts = subst (λ y. Seg k c t s0 (moved m m.plan y) picks) (sym acts) seg

  pub work_kept : (m : Memory L G S) (picks allowed made waiting : ℕ) (u : Memory L G S) → Seg k c t s0 m picks → Works k c t m allowed made waiting u
      → Seg k c t s0 u (made + picks)
  work_kept m picks allowed made waiting u seg works =
      let (q, first, last) = work-parts k c t m allowed made waiting u works in
      let n = length works.picks + picks in
      let plan = after_picks k t m.gateway m.grades m.plan works.picks in
      let worked = last-at (moved m plan q) n u.plan.labels (nat_lt (length works.picks) allowed) u.list (picks_kept works.picks m picks q seg first) last in
      let same : moved m plan u.list ≡ u = memory_same (moved m plan u.list) u (sym works.book.0) (sym works.book.1) (sym works.grades) (sym works.plan) refl in
      let count : n ≡ made + picks = omega (arith, works.counted) in
      subst (λ y. Seg k c t s0 u y) count (subst (λ y. Seg k c t s0 y n) same worked)

module _ {S K L G : Type 0} (k : Kind K L G) (c : Candidates S K L G) (t : Table) (lists : ListLaws c.waits c.emptied c.entered c.picked) where
  none-waits : (labels : List L) (b : Bool) (s u : S) → b ≡ true → Acts c s (if b then gives labels None ∷ [] else []) u → (v : ℕ) → c.waits u v ≡ false
  none-waits labels true s u h acts v =
      let (q, picked, same) = acts in
      ap (λ y. c.waits y v) same ∙ lists.none_after s labels q picked v
  none-waits labels false s u h acts v = absurd cc

  -- work that reports fewer picks than it was allowed leaves no station waiting
  pub work_done : (m : Memory L G S) (allowed made waiting : ℕ) (u : Memory L G S) → Works k c t m allowed made waiting u → made < allowed
      → (waiting ≡ 0) × ((v : ℕ) → c.waits u.list v ≡ false)
  work_done m allowed made waiting u works few =
      let (q, first, last) = work-parts k c t m allowed made waiting u works in
      let none = none-waits u.plan.labels (nat_lt (length works.picks) allowed) q u.list (lt-ltb _ _ (omega (arith, works.counted))) last in
      (works.left ∙ count_none (c.waits u.list) 1024 none, none)
