use Rattle.std.proofs.Common.{◌≡◌, ◌≤◌, ◌++◌, map, drop, vec_items}
use Rattle.script.specs.Words.{words_of, words_from}
use Rattle.script.proofs.Parting.{under}
use Rattle.script.proofs.words.words.Given as goal

-- the words so far, the word under way, and what is left
abbrev pub invariant-loop-i : goal.invariant-loop-i
invariant-loop-i l =
    (l.from ≤ l.i)
    × (words_of l.line ≡ map (λ x. x.now) (vec_items l.out) ++ words_from (under l.line l.from l.i) (drop l.i l.line))
