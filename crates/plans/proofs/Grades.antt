-- The grade of a path that is written with its last link first.
use Rattle.std.proofs.Common.{◌≡◌, ℕ, List, [], ◌∷◌, reverse, Some, Option, fold, sym, refl, ap, ◌∙◌}
use Rattle.std.proofs.lemmas.List.{reverse-reverse}
use mathlib.Core.List.{reverse_aux}
use Rattle.kinds.specs.declared.kind.Kind.{Ghosts as Kind}
use Rattle.paths.specs.Grade.{through, path_grade}

abbrev pub turned_grade : {K L G : Type 0} → Kind K L G → List G → List ℕ → Option L
turned_grade k grades [] = Some k.start
turned_grade k grades (l ∷ p) = through k grades (turned_grade k grades p) l

module _ {K L G : Type 0} (k : Kind K L G) (grades : List G) where
  grade-onto : (p q : List ℕ) → path_grade k grades (reverse_aux p q) ≡ fold (through k grades) (turned_grade k grades p) q
  grade-onto [] q = refl
  grade-onto (l ∷ p) q = grade-onto p (l ∷ q)

  pub grade-reverse : (p : List ℕ) → path_grade k grades (reverse p) ≡ turned_grade k grades p
  grade-reverse p = grade-onto p []

  pub grade-turned : (p : List ℕ) → path_grade k grades p ≡ turned_grade k grades (reverse p)
  grade-turned p = ap (path_grade k grades) (sym (reverse-reverse p)) ∙ grade-reverse (reverse p)
