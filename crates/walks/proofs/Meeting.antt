-- When the backward walk from a station meets a link: it comes to the one station from which it moves over the link, in a move less.
use Rattle.std.proofs.Common.{◌≡◌, ℕ, zero, suc, ◌-◌, Bool, true, false, eqb, List, refl, sym, subst, inl, inr, arith}
use Rattle.std.specs.List.{list_any}
use Rattle.std.proofs.lemmas.Bool.{cases_Bool, cases_eq, eq-eqb, ne_eqb}
use Rattle.net.specs.Table.{Table, ForwardStar, station_count}
use Rattle.walks.specs.Walk.{entry_at, moves, MovesOver, walk, crosses, met_back, comes}
use Rattle.walks.proofs.Searching.{moves_over-one}
use Rattle.walks.proofs.Coming.{comes_there}

module _ (t : Table) (entries : List ℕ) (l : ℕ) where
  -- in at most k moves
  abbrev meets : ℕ → ℕ → Bool
  meets k v = list_any (λ j. eqb j l) (walk t entries k v)

  pub meets-none : ((v : ℕ) → MovesOver t entries l v → ⊥) → (k v : ℕ) → meets k v ≡ false
  unfolding walk
  meets-none nowhere zero v = refl
  meets-none nowhere (suc k) v =
      elim (cases_Bool (moves t entries v)) [
        | inl on ↦ rw (on, ne_eqb _ _ (λ is. nowhere v (on, is))) (meets-none nowhere k _)
        | inr still ↦ rw still
      ]

  module _ (h : ℕ) (over : MovesOver t entries l h) where
    -- from h itself the walk moves over the link at once
    meets-here : (k v : ℕ) → v ≡ h → meets (suc k) v ≡ comes t entries h k v
    unfolding walk
    meets-here k v here = rw (here, over.0, eq-eqb (entry_at entries h) l over.1) (sym (comes_there t entries h k h refl))

    -- from another station over another link
    not_over : (v : ℕ) → (v ≡ h → ⊥) → moves t entries v ≡ true → eqb (entry_at entries v) l ≡ false
    not_over v other on = ne_eqb _ _ (λ is. other (moves_over-one t entries l v h (on, is) over))

    meets-comes : (k v : ℕ) → meets (suc k) v ≡ comes t entries h k v
    unfolding walk met_back
    meets-comes zero v =
        elim (cases_eq v h) [
          | inl here ↦ meets-here 0 v here
          | inr other ↦ elim (cases_Bool (moves t entries v)) [
            | inl on ↦ rw (on, not_over v other on, ne_eqb v h other)
            | inr still ↦ rw (still, ne_eqb v h other)
          ]
        ]
    meets-comes (suc k) v =
        elim (cases_eq v h) [
          | inl here ↦ meets-here (suc k) v here
          | inr other ↦ elim (cases_Bool (moves t entries v)) [
            | inl on ↦ rw (on, not_over v other on, ne_eqb v h other) (meets-comes k _)
            | inr still ↦ rw (still, ne_eqb v h other)
          ]
        ]

  pub crosses-comes : ForwardStar t → (h : ℕ) → MovesOver t entries l h → (v : ℕ) → crosses t entries l v ≡ comes t entries h (station_count t - 1) v
  crosses-comes star h over v =
      let all : suc (station_count t - 1) ≡ station_count t = omega (arith, star.some) in
      subst (λ k. meets k v ≡ comes t entries h (station_count t - 1) v) all (meets-comes h over (station_count t - 1) v)
