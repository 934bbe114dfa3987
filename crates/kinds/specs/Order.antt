-- The order of labels, over the members of any kind.
use Rattle.std.specs.Prelude.{◌≡◌, true, ◌≢◌}
use Rattle.kinds.specs.declared.kind.Kind.{Ghosts}

module _ {K L G : Type 0} (k : Ghosts K L G) where
  -- a is at least as good as b
  abbrev pub AtLeast : L → L → Type 0
  AtLeast a b = k.at_least a b ≡ true

  -- at least as good, and not the same
  abbrev pub Better : L → L → Type 0
  Better a b = AtLeast a b × (a ≢ b)
