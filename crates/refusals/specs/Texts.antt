-- The text of a refusal.
use Rattle.std.specs.Prelude.{ℕ, List, ◌++◌, codes, decimal}
use Rattle.refusals.specs.declared.told.Layer.{Layer}
use Rattle.refusals.specs.declared.told.Layer.TheVariants as layer
use Rattle.refusals.specs.declared.told.Told.{Told}

abbrev pub layer_text : Layer → List ℕ
layer_text layer.Net = codes "net"
layer_text layer.Kind = codes "kind"
layer_text layer.List = codes "list"
layer_text layer.Book = codes "book"
layer_text layer.Check = codes "check"

abbrev pub told_text : Told → List ℕ
told_text t = codes "refused " ++ (decimal t.number ++ (codes " place " ++ (decimal t.place ++ (codes " layer " ++ layer_text t.layer))))
