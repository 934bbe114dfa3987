use Rattle.std.proofs.Common.{◌≡◌, rules, tests, List, [], ◌∷◌, Some, None, Option, MatchResult}
use Rattle.std.proofs.lemmas.Iterator.{YieldsList-from_slice}
use Rattle.std.proofs.lemmas.Iterator.Search.{find_from_yields_List}
use Rattle.std.specs.Str.{bytes_eq}
use Rattle.std.specs.Option.{ok_or}
use Rattle.choice.specs.Names.{list_word}
use Rattle.choice.specs.declared.list_name.ListName.{ListName}
use Rattle.choice.specs.declared.list_name.ListName.TheVariants.{FirstIn, TwoEnded, SmallLabel, Threshold, Bucket}
use Rattle.choice.proofs.list_name.ListNameTryFromRefSliceU8.try_from.Goals as goal

abbrev names : List ListName
names = FirstIn ∷ TwoEnded ∷ SmallLabel ∷ Threshold ∷ Bucket ∷ []

-- what was found, or an error in place of none
or_error : {T E : Type 0} (e : E) (found told : Option T) → found ≡ told → MatchResult (ok_or found e) (λ t. told ≡ Some t) (λ _. told ≡ None)
or_error e None told h = cc
or_error e (Some t) told h = cc

pub returns : goal.returns
returns c =
    rw (c.ok_or.ensures.value, c.copied.ensures)
    (or_error _ _ _ (find_from_yields_List (λ name. bytes_eq c.args.word.now (list_word name)) _ _ _ c.find.ensures.ran (YieldsList-from_slice names cc) (λ x b q k. search (rules, tests))))
