-- Texts that are written one after the other, where each may be unknown.
use Rattle.std.proofs.Common.{◌≡◌, ℕ, ◌+◌, ◌<◌, List, [], ◌∷◌, ◌++◌, length, take, get_or, Some, None, Option, Result, codes, refl, sym, ap, ◌∙◌, append-nil, add-one}
use Rattle.std.proofs.Math.Seq.{take-suc}
use Rattle.std.proofs.Output.{then_text_assoc, has_written_append}
use Rattle.std.specs.Fmt.{IsPlainFormatter, HasWritten, DisplaysOnOk, ◌++?◌}
use Rattle.std.specs.Prelude.{IfSome, IsOk}
use Rattle.std.specs.declared.fmt.Error.{Error}
use Rattle.std.specs.declared.fmt.Formatter.{Formatter}
use Rattle.answers.specs.Listing.{spaced_items, spaced}

module _ {W : Type 0} (took : W → List ℕ → W → Type 0) where
  -- g is f after writing the text in o
  abbrev pub Shows : Formatter W → Option (List ℕ) → Formatter W → Type 0
  Shows f o g = IfSome o (λ bs. HasWritten took f bs g)

  module _ (f g : Formatter W) (r : Result (Unit {0}) Error) where
    -- from what a call ensures
    pub shows_from : (o : Option (List ℕ)) → DisplaysOnOk took f r o g → IsPlainFormatter f → IsOk r → Shows f o g
    shows_from None x p ok = tt
    shows_from (Some a) x p ok = x p ok

    -- and back
    pub displays_from : (o : Option (List ℕ)) → (IsPlainFormatter f → IsOk r → Shows f o g) → DisplaysOnOk took f r o g
    displays_from None k = tt
    displays_from (Some a) k = k

  -- two writes in a row
  pub shows_then : (f g h : Formatter W) (o p : Option (List ℕ)) → Shows f o g → (IsPlainFormatter g → Shows g p h) → Shows f (o ++? p) h
  shows_then f g h None p x y = tt
  shows_then f g h (Some a) None x y = tt
  shows_then f g h (Some a) (Some b) x y = has_written_append took f a g b h x (y x.plain)

nothing_then : (o : Option (List ℕ)) → Some [] ++? o ≡ o
nothing_then None = refl
nothing_then (Some a) = refl

then_nothing : (o : Option (List ℕ)) → o ++? Some [] ≡ o
then_nothing None = refl
then_nothing (Some a) = ap Some (append-nil a)

module _ {T : Type 0} (text : T → Option (List ℕ)) where
  spaced_items-push : (xs : List T) (x : T) → spaced_items text (xs ++ x ∷ []) ≡ spaced_items text xs ++? (Some (codes " ") ++? text x)
  spaced_items-push [] x = ap (λ o. Some (codes " ") ++? o) (then_nothing (text x)) ∙ sym (nothing_then _)
  spaced_items-push (y ∷ xs) x =
      ap (λ o. Some (codes " ") ++? (text y ++? o)) (spaced_items-push xs x)
      ∙ sym (then_text_assoc (Some (codes " ")) _ _ ∙ ap (λ o. Some (codes " ") ++? o) (then_text_assoc (text y) _ _))

  -- one value more
  pub spaced_items-take : (xs : List T) (i : ℕ) (x : T) → i < length xs → x ≡ get_or xs i x
      → spaced_items text (take (i + 1) xs) ≡ spaced_items text (take i xs) ++? (Some (codes " ") ++? text x)
  spaced_items-take xs i x within is = rw (add-one, take-suc xs i x within, ← is, spaced_items-push)

-- where each value has a text
pub spaced_items-Some : {T : Type 0} (text : T → List ℕ) (xs : List T) → spaced_items (λ x. Some (text x)) xs ≡ Some (spaced text xs)
spaced_items-Some text [] = refl
spaced_items-Some text (x ∷ xs) = rw (spaced_items-Some text xs)
