use Rattle.std.proofs.Common.{◌≡◌, ℕ, ◌<◌, List, ◌∷◌, length, Err, Option, Result, Bor, refl, arith}
use Rattle.std.proofs.lemmas.Grind.{common_steps}
use Rattle.refusals.specs.declared.kind.KindFault.{KindFault}
use Rattle.answers.specs.declared.trouble.Bounds.{Bounds}
use Rattle.answers.specs.declared.trouble.Trouble.TheVariants.{Usage}
use Rattle.answers.specs.declared.trouble.Usage.TheVariants as usage
use Rattle.script.specs.Words.{word_bytes}
use Rattle.hands.specs.declared.ask.NotAsked.TheVariants.{Troubled}
use Rattle.hands.specs.Asks.{choice_asked}
use Rattle.hands.proofs.Shapes.{two_up}
use Rattle.hands.proofs.ask.choice_asked.Goals as goal

-- a line without a name
unnamed : {S G : Type 0} (reads : List ℕ → Option S) (bounds : Bounds) (makes : S → Result G KindFault) (ws : List (Bor (List ℕ))) → length ws < 2
    → Err (Troubled (Usage usage.List)) ≡ choice_asked reads bounds makes (word_bytes ws)
unnamed reads bounds makes (c ∷ w ∷ ws) h = absurd (omega arith)
unnamed reads bounds makes _ h = refl

pub returns-in_default : goal.returns-in_default
returns-in_default g c = unnamed g.G.Spelt.Readable.reads g.G.Spelt.Readable.bounds g.G.Single.makes c.args.words.now c.in_default.len_below

pub returns-in_default-2 : goal.returns-in_default-2
returns-in_default-2 g c = rw (two_up c.args.words.now (omega arith)) (grind (arith, common_steps))
