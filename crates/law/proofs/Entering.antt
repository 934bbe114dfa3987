-- The stations that enter at a regrade, and what a row of stations that enter makes of the waiting ones.
use Rattle.std.proofs.Common.{◌≡◌, ℕ, ◌<◌, true, List, [], ◌∷◌, map, ◌⊎◌, refl, sym, ap, ◌∙◌, subst, inl, inr, arith}
use Rattle.std.specs.List.{range_with_len}
use Rattle.std.proofs.lemmas.Bool.{cond_both, or_cases, or_left, or_right, eq-eqb, eqb-true}
use Rattle.kinds.specs.declared.kind.Kind.{Ghosts as Kind}
use Rattle.lists.specs.Meaning.{ListLaws}
use Rattle.lists.specs.declared.list.CandidateList.{Ghosts as Candidates}
use Rattle.net.specs.Table.{Table, station_count, link_count, tail_at}
use Rattle.paths.specs.Lists.{In}
use Rattle.walks.specs.Walk.{labelled}
use Rattle.runs.specs.Acts.{enters, Acts}
use Rattle.plans.specs.Plan.{Plan}
use Rattle.runs.specs.Regrade.{spoils, entering}
use Rattle.law.proofs.Invariant.{Fit}
use Rattle.law.proofs.Fitting.{range-in}
use Rattle.law.proofs.Among.{filter-in}

module _ {S K L G : Type 0} (c : Candidates S K L G) (lists : ListLaws c.waits c.emptied c.entered c.picked) (labels : List L) where
  -- the stations of the row wait, and those that waited
  pub waits-row : (vs : List ℕ) (s u : S) → ((v : ℕ) → In v vs → v < 1024) → Acts c s (map (λ v. enters v labels) vs) u
      → (x : ℕ) → In x vs ⊎ (c.waits s x ≡ true) → c.waits u x ≡ true
  waits-row [] s u small e x (inl i) = elim i [ ]
  waits-row [] s u small e x (inr w) = ap (λ q. c.waits q x) e ∙ w
  waits-row (v ∷ vs) s u small (q, a, rest) x i =
      let row = waits-row vs q u (λ y j. small y (inr j)) rest x in
      let added = lists.adds s v labels q (small v (inl refl)) a x in
      elim i [
        | inl (inl e) ↦ row (inr (added ∙ or_left _ _ (eq-eqb x v e)))
        | inl (inr j) ↦ row (inl j)
        | inr w ↦ row (inr (added ∙ or_right _ _ w))
      ]

  -- and no others
  pub row-waits : (vs : List ℕ) (s u : S) → ((v : ℕ) → In v vs → v < 1024) → Acts c s (map (λ v. enters v labels) vs) u
      → (x : ℕ) → c.waits u x ≡ true → In x vs ⊎ (c.waits s x ≡ true)
  row-waits [] s u small e x w = inr (ap (λ q. c.waits q x) (sym e) ∙ w)
  row-waits (v ∷ vs) s u small (q, a, rest) x w =
      let added = lists.adds s v labels q (small v (inl refl)) a x in
      elim (row-waits vs q u (λ y j. small y (inr j)) rest x w) [
        | inl j ↦ inl (inr j)
        | inr h ↦ elim (or_cases _ _ (sym added ∙ h)) [ inl e ↦ inl (inl (eqb-true x v e)) | inr g ↦ inr g ]
      ]

-- every station that enters is of the net
pub entering-station : {K L G : Type 0} (k : Kind K L G) (t : Table) → Fit t → (p : Plan L) (l : ℕ) (x : G) → l < link_count t
    → (v : ℕ) → In v (entering k t p l x) → v < station_count t
entering-station k t fit p l x lm v =
    cond_both (spoils k t p l x) _ _ (λ vs. In v vs → v < station_count t)
    (λ _ i. let r = range-in 0 (station_count t) v (filter-in _ (range_with_len 0 (station_count t)) v i) in omega (arith, r))
    (λ _. cond_both (labelled p.entries (tail_at t l)) (tail_at t l ∷ []) [] (λ vs. In v vs → v < station_count t)
    (λ _ i. elim i [ inl e ↦ subst (λ y. y < station_count t) (sym e) (fit.leaves l lm) | inr j ↦ elim j [ ] ])
    (λ _ i. elim i [ ]))
