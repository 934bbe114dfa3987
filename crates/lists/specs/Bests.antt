-- The best label of a queue, station by station; and that it passes a threshold which is itself carried over a step.
use Rattle.std.proofs.Common.{◌≡◌, ℕ, ◌+◌, ◌<◌, true, ◌⊎◌, List, [], ◌∷◌, length, drop, Some, None, Option, sym, refl, ap, ◌∙◌, inl, inr, ⊎_elim, ◌==◌, slice_index}
use Rattle.std.specs.Option.{option_map, option_and_then}
use Rattle.std.specs.List.{slice_get}
use Rattle.std.proofs.lemmas.List.{drop_more}
use Rattle.std.proofs.lemmas.Bool.{cases_Bool, cond-true, cond-false, or_left, or_right, eq-eqb}
use Rattle.kinds.specs.declared.kind.Kind.{Ghosts}
use Rattle.kinds.specs.Laws.{Laws}
use Rattle.lists.specs.Stations.{holds}
use Rattle.lists.specs.Thresholds.{passes, best_on, best_label, better_of}

module _ {K L G : Type 0} (k : Ghosts K L G) (ls : List L) (best : Option L) (line : List ℕ) (i x : ℕ) (within : i < length line) (is : x ≡ slice_index line i) where
  next-is : drop i line ≡ x ∷ drop (i + 1) line
  next-is = drop_more line i 0 within ∙ ap (λ y. y ∷ drop (i + 1) line) (sym is)

  -- a label that was not handed over ends it
  pub best-stops : slice_get ls x ≡ None → best_on k ls best (drop i line) ≡ None
  best-stops none = ap (best_on k ls best) next-is ∙ ap (option_and_then (λ a. best_on k ls (Some (better_of k best a)) (drop (i + 1) line))) none

  -- one that was is counted in
  -- (nothing cites it today)
  pub best-more : (a : L) → slice_get ls x ≡ Some a → best_on k ls best (drop i line) ≡ best_on k ls (Some (better_of k best a)) (drop (i + 1) line)
  best-more a some = ap (best_on k ls best) next-is ∙ ap (option_and_then (λ b. best_on k ls (Some (better_of k best b)) (drop (i + 1) line))) some

module _ {K L G : Type 0} (k : Ghosts K L G) (ls : List L) where
  -- a station of the queue has the label, or the want of one, that the search answers
  abbrev pub Has : List ℕ → Option L → Type 0
  Has xs r = (y : ℕ) × ((holds xs y ≡ true) × (slice_get ls y ≡ r))

  has_more : (x : ℕ) (xs : List ℕ) (r : Option L) → Has xs r → Has (x ∷ xs) r
  has_more x xs r h = (h.0, (or_right (h.0 == x) (holds xs h.0) h.1.0, h.1.1))

  has-top : (x : ℕ) (xs : List ℕ) (r : Option L) → slice_get ls x ≡ r → Has (x ∷ xs) r
  has-top x xs r e = (x, (or_left (x == x) (holds xs x) (eq-eqb x x refl), e))

  better-either : (best : Option L) (a : L) → (Some (better_of k best a) ≡ best) ⊎ (Some (better_of k best a) ≡ Some a)
  better-either None a = inr refl
  better-either (Some b) a = ⊎_elim (λ e. inl (ap Some (cond-true (k.at_least b a) b a e))) (λ e. inr (ap Some (cond-false (k.at_least b a) b a e))) (cases_Bool (k.at_least b a))

  abbrev From : Option L → List ℕ → Type 0
  From best xs = (best_on k ls best xs ≡ best) ⊎ Has xs (best_on k ls best xs)

  from_next : (best : Option L) (x : ℕ) (xs : List ℕ) (rest : (b : Option L) → From b xs) (o : Option L) → slice_get ls x ≡ o → (option_and_then (λ a. best_on k ls (Some (better_of k best a)) xs) o ≡ best) ⊎ Has (x ∷ xs) (option_and_then (λ a. best_on k ls (Some (better_of k best a)) xs) o)
  from_next best x xs rest None e = inr (has-top x xs None e)
  from_next best x xs rest (Some a) e =
      ⊎_elim
      (λ same. ⊎_elim (λ old. inl (same ∙ old)) (λ new. inr (has-top x xs _ (e ∙ sym (same ∙ new)))) (better-either best a))
      (λ h. inr (has_more x xs _ h))
      (rest (Some (better_of k best a)))

  best-from : (best : Option L) (xs : List ℕ) → From best xs
  best-from best [] = inl refl
  best-from best (x ∷ xs) = from_next best x xs (λ b. best-from b xs) (slice_get ls x) refl

  pub best-held : (x : ℕ) (xs : List ℕ) → Has (x ∷ xs) (best_label k ls (x ∷ xs))
  best-held x xs = at (slice_get ls x) refl
    where
      at : (o : Option L) → slice_get ls x ≡ o → Has (x ∷ xs) (option_and_then (λ a. best_on k ls (Some a) xs) o)
      at None e = has-top x xs None e
      at (Some a) e = ⊎_elim (λ same. has-top x xs _ (e ∙ sym same)) (λ h. has_more x xs _ h) (best-from (Some a) xs)

-- a label passes the threshold that it gives when it is carried over a step
pub passes-own : {K L G : Type 0} (k : Ghosts K L G) (laws : Laws k.carry k.at_least k.rank) (step : G) (r : Option L) → passes k (option_map (λ best. k.carry best step) r) r ≡ true
passes-own k laws step None = refl
passes-own k laws step (Some a) = laws.worsens a step
