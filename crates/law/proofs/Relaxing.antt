-- The links of a picked station, gone through one after the other, keep what holds of a stretch of calls.
use Rattle.std.proofs.Common.{◌≡◌, ℕ, ◌<◌, ◌≢◌, Bool, true, false, if◌then◌else◌, not, ◌&&◌, ◌||◌, ◌==◌, List, [], ◌∷◌, Some, None, Option, refl, sym, ap, ◌∙◌, subst, inl, inr, arith, get_or-set_other, get_or-set_same, length-set}
use Rattle.std.proofs.lemmas.Bool.{and_parts, and_cases, or_cases, or_left, eq-eqb, eqb-true, eqb-false, ne_eqb, not-true, not-false, both_ways}
use Rattle.kinds.specs.declared.kind.Kind.{Ghosts as Kind}
use Rattle.kinds.specs.Laws.{Laws}
use Rattle.kinds.specs.Order.{AtLeast}
use Rattle.lists.specs.Meaning.{ListLaws}
use Rattle.lists.specs.declared.list.CandidateList.{Ghosts as Candidates}
use Rattle.net.specs.Table.{Table, station_count, link_count, head_at, tail_at}
use Rattle.paths.specs.Lists.{In}
use Rattle.walks.specs.Walk.{unlabelled}
use Rattle.plans.specs.Offers.{welcomes_offer}
use Rattle.plans.specs.Plan.{written, label_at}
use Rattle.plans.proofs.Comparing.{declined}
use Rattle.plans.proofs.Labelled.{labelled_lab, lab_labelled}
use Rattle.runs.specs.Acts.{enters, Acts}
use Rattle.runs.specs.Scan.{given, after_link, link_acts, after_links, links_acts}
use Rattle.runs.specs.Calls.{Memory}
use Rattle.runs.proofs.Rows.{acts-parts}
use Rattle.law.proofs.Invariant.{Fit, View, view, Sized, Lab, offer}
use Rattle.law.proofs.Counting.{count-entered}
use Rattle.law.proofs.History.{way, wrote_hist}
use Rattle.law.proofs.Segments.{moved, Part}
use Rattle.law.proofs.Writing.{HeadServed, Takes, Wrote, still_lab, wrote_inv, passed_inv}

module _ {S K L G : Type 0} (k : Kind K L G) (c : Candidates S K L G) (t : Table)
    (laws : Laws k.carry k.at_least k.rank) (lists : ListLaws c.waits c.emptied c.entered c.picked) (fit : Fit t) where
  module _ (m : Memory L G S) (l : ℕ) (in_net : l < link_count t) (from : Lab k t (view k c m) (tail_at t l)) where
    -- what the link is tested by, once its offer is known
    abbrev test : Option L → Bool
    test o = not (head_at t l == m.gateway) && welcomes_offer k m.plan (head_at t l) o

    taken : (a : L) → offer k t (view k c m) l ≡ Some a → test (Some a) ≡ true → Takes k t (view k c m) l a
    taken a e h =
        let p = and_parts _ _ h in
        record {
          in_net = in_net;
          from = from;
          offered = e;
          not_gate = eqb-false _ _ (not-true _ p.0);
          better = λ lab. elim (or_cases _ _ p.1) [
            | inl f ↦ absurd (both_ways _ (not-true _ f) (lab_labelled m.plan.entries (head_at t l) lab))
            | inr f ↦ let q = and_parts _ _ f in (q.0, both_ways _ (not-true _ q.1))
          ];
        }

    passed : (a : L) → test (Some a) ≡ false → head_at t l ≢ m.gateway → Lab k t (view k c m) (head_at t l) × AtLeast k (label_at k m.plan (head_at t l)) a
    passed a h d = elim (and_cases _ _ h) [
      | inl f ↦ absurd (d (eqb-true _ _ (not-false _ f)))
      | inr f ↦
          let p = declined k laws m.plan (head_at t l) (Some a) a refl f in
          (labelled_lab m.plan.entries (head_at t l) p.0, p.1)
    ]

    module _ (a : L) (q : S) (sized : Sized t m) (entered : c.entered m.list (head_at t l) (written m.plan (head_at t l) l a).labels q) where
      abbrev after : Memory L G S
      after = moved m (written m.plan (head_at t l) l a) q

      waits-now : (j : ℕ) → c.waits q j ≡ (j == head_at t l || c.waits m.list j)
      waits-now = lists.adds m.list (head_at t l) _ q (omega (arith, fit.lands l in_net, fit.small)) entered

      wrote : Wrote k t (view k c m) (view k c after) l a
      wrote =
          let low : head_at t l < station_count t = fit.lands l in_net in
          record {
            gw_is = refl;
            gr_is = λ j. refl;
            lab_at = get_or-set_same m.plan.labels (head_at t l) a k.start (omega (arith, low, sized.labels_n));
            lab_off = λ x d. get_or-set_other m.plan.labels (head_at t l) x a k.start d;
            ent_at = get_or-set_same m.plan.entries (head_at t l) l unlabelled (omega (arith, low, sized.entries_n));
            ent_off = λ x d. get_or-set_other m.plan.entries (head_at t l) x l unlabelled d;
            wt_at = waits-now (head_at t l) ∙ or_left _ _ (eq-eqb (head_at t l) (head_at t l) refl);
            wt_off = λ x d. waits-now x ∙ ap (λ b. b || c.waits m.list x) (ne_eqb x (head_at t l) d);
          }

      wrote-sized : Sized t after
      wrote-sized = record {
        labels_n = length-set m.plan.labels (head_at t l) a ∙ sized.labels_n;
        entries_n = length-set m.plan.entries (head_at t l) l ∙ sized.entries_n;
        grades_m = sized.grades_m;
      }

    -- what one link makes of a stretch, and which labels stay
    abbrev Kept : View L G → List ℕ → ℕ → Memory L G S → Type 0
    Kept s0 pend picks u = Part k c t s0 pend u picks × ((x : ℕ) → Lab k t (view k c m) x → Lab k t (view k c u) x)

    passed-kept : (s0 : View L G) (pend : List ℕ) (picks : ℕ) (q : S) → Part k c t s0 (l ∷ pend) m picks → q ≡ m.list
        → (head_at t l ≢ m.gateway → HeadServed k t (view k c m) l) → Kept s0 pend picks (moved m m.plan q)
    passed-kept s0 pend picks q part same ok =
        let old : Part k c t s0 pend m picks = record {
          sized = part.sized;
          inv = passed_inv k t (view k c m) l pend ok part.inv;
          netted = part.netted;
          ways = part.ways;
          hist = part.hist;
          count = part.count;
        } in
        subst (λ y. Kept s0 pend picks (moved m m.plan y)) (sym same) (old, λ x h. h)

    written-kept : (s0 : View L G) (pend : List ℕ) (picks : ℕ) (q : S) → Part k c t s0 (l ∷ pend) m picks → (a : L) → Takes k t (view k c m) l a
        → c.entered m.list (head_at t l) (written m.plan (head_at t l) l a).labels q
        → Kept s0 pend picks (moved m (written m.plan (head_at t l) l a) q)
    written-kept s0 pend picks q part a i entered =
        let u : Memory L G S = moved m (written m.plan (head_at t l) l a) q in
        let w : Wrote k t (view k c m) (view k c u) l a = wrote a q part.sized entered in
        let now = waits-now a q part.sized entered in (
          record {
            sized = wrote-sized a q part.sized entered;
            inv = wrote_inv k laws t fit (view k c m) (view k c u) l a i w pend part.inv;
            netted = λ v h. elim (or_cases _ _ (sym (now v) ∙ h)) [
              | inl e ↦ subst (λ y. y < station_count t) (sym (eqb-true _ _ e)) (fit.lands l in_net)
              | inr e ↦ part.netted v e
            ];
            ways = (l ∷ way k laws t fit s0 (view k c m) part.ways part.hist (view k c u) l a i w) ∷ part.ways;
            hist = wrote_hist k laws t fit s0 (view k c m) part.ways part.hist (view k c u) l a i w;
            count = omega (arith, part.count, count-entered (c.waits m.list) (c.waits q) (head_at t l) 1024 now);
          },
          still_lab k laws t fit (view k c m) (view k c u) l a i w,
        )

    link-at : (s0 : View L G) (pend : List ℕ) (picks : ℕ) (q : S) → Part k c t s0 (l ∷ pend) m picks
        → (o : Option L) (b : Bool) → offer k t (view k c m) l ≡ o → test o ≡ b
        → Acts c m.list (if b then enters (head_at t l) (if b then given k t m.gateway m.grades m.plan l o else m.plan).labels ∷ [] else []) q
        → Kept s0 pend picks (moved m (if b then given k t m.gateway m.grades m.plan l o else m.plan) q)
    link-at s0 pend picks q part None true e h acts = absurd (let p = and_parts _ _ h in both_ways _ refl p.1)
    link-at s0 pend picks q part None false e h acts =
        passed-kept s0 pend picks q part acts (λ d a f. absurd (let g : ◌≡◌ {A = Option L} None (Some a) = sym e ∙ f in cc))
    link-at s0 pend picks q part (Some a) false e h acts =
        passed-kept s0 pend picks q part acts
        (λ d b f. let same : a ≡ b = (cc (e, f)) in
        subst (λ y. Lab k t (view k c m) (head_at t l) × AtLeast k (label_at k m.plan (head_at t l)) y) same (passed a h d))
    link-at s0 pend picks q part (Some a) true e h acts =
        let (r, entered, same) = acts in
        let plan = written m.plan (head_at t l) l a in
        subst (λ y. Kept s0 pend picks (moved m plan y)) (sym same) (written-kept s0 pend picks r part a (taken a e h) entered)

    pub link_kept : (s0 : View L G) (pend : List ℕ) (picks : ℕ) (q : S) → Part k c t s0 (l ∷ pend) m picks
        → Acts c m.list (link_acts k t m.gateway m.grades m.plan (tail_at t l) l) q
        → Kept s0 pend picks (moved m (after_link k t m.gateway m.grades m.plan (tail_at t l) l) q)
    link_kept s0 pend picks q part acts =
        let o = offer k t (view k c m) l in
        link-at s0 pend picks q part o (test o) refl refl acts

  -- the links of the labelled station x, one after the other
  pub links_kept : (s0 : View L G) (picks x : ℕ) (ls : List ℕ) (m : Memory L G S) (q : S) → ((l : ℕ) → In l ls → (l < link_count t) × (tail_at t l ≡ x))
      → Lab k t (view k c m) x → Part k c t s0 ls m picks → Acts c m.list (links_acts k t m.gateway m.grades m.plan x ls) q
      → Part k c t s0 [] (moved m (after_links k t m.gateway m.grades m.plan x ls) q) picks
  unfolding after_links links_acts
  links_kept s0 picks x [] m q mine lab part acts = subst (λ y. Part k c t s0 [] (moved m m.plan y) picks) (sym acts) part
  links_kept s0 picks x (l ∷ ls) m q mine lab part acts =
      let here = mine l (inl refl) in
      let plan = after_link k t m.gateway m.grades m.plan x l in
      let (r, first, rest) = acts-parts c m.list (link_acts k t m.gateway m.grades m.plan x l) (links_acts k t m.gateway m.grades plan x ls) q acts in
      let from : Lab k t (view k c m) (tail_at t l) = subst (λ y. Lab k t (view k c m) y) (sym here.1) lab in
      let one = link_kept m l here.0 from s0 ls picks r part (subst (λ y. Acts c m.list (link_acts k t m.gateway m.grades m.plan y l) r) (sym here.1) first) in
      let u : Memory L G S = moved m plan r in
      let moved_on : Kept m l here.0 from s0 ls picks u =
      subst (λ y. Kept m l here.0 from s0 ls picks (moved m (after_link k t m.gateway m.grades m.plan y l) r)) here.1 one in
      links_kept s0 picks x ls u q (λ j i. mine j (inr i)) (moved_on.1 x lab) moved_on.0 rest
