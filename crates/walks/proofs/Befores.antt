-- What a list has of the moves of all backward walks when the first links have been gone through.
use Rattle.std.proofs.Common.{◌≡◌, ℕ, ltb, List, length, get_or, set, replicate, Some, None, Option, ◌∙◌, inl, inr, arith, if◌then◌else◌}
use Rattle.std.proofs.lemmas.Bool.{cases_eq, lt-ltb}
use Rattle.std.proofs.lemmas.Bool.Decides.{nat_tests}
use Rattle.std.proofs.lemmas.Grind.{common_steps}
use Rattle.std.proofs.lemmas.List.{get_or-set_same, get_or-set_other, length-replicate, length-set}
use Rattle.std.specs.declared.ops.Range.{Range}
use Rattle.net.specs.Table.{Table, ForwardStar}
use Rattle.net.proofs.Going.{Gives, Going, going-leaves}
use Rattle.net.proofs.Tails.{tail-is}
use Rattle.walks.specs.Walk.{entry_at, MovesOver, before}
use Rattle.walks.proofs.Searching.{moves-station, moves_over-one}

module _ (t : Table) (entries : List ℕ) where
  -- the station to which the walk moves from v, if it moves over one of the first n links
  abbrev pub before_over : ℕ → ℕ → Option ℕ
  before_over n v = if ltb (entry_at entries v) n then before t entries v else None

  -- a list has these stations
  pub record Over (n : ℕ) (b : List (Option ℕ)) : Type 0 where
    pub room : length b ≡ 1024
    pub places : (v : ℕ) → get_or b v None ≡ before_over n v

  -- before the first link
  pub over_none : (k : ℕ) → k ≡ 1024 → Over 0 (replicate k None)
  over_none k many = record {
    room = length-replicate {A = Option ℕ} k None ∙ many;
    places = λ v. grind (arith, common_steps);
  }

-- Range r gives link l of station s, and is q after it; the link is the entry of its head h.
pub over_entry : {t : Table} {entries : List ℕ} {b : List (Option ℕ)} {l s : ℕ} {r q : Range ℕ} (h : ℕ) → ForwardStar t → Gives r l q → Going t s r
    → MovesOver t entries l h → Over t entries r.start b → Over t entries q.start (set b h (Some s))
over_entry {t} {entries} {b} {l} {s} {r} {q} h star gives going over w = record {
  room = length-set b h (Some s) ∙ w.room;
  places = λ v. elim (cases_eq v h) [
    | inl same ↦
        rw (same, over.0, over.1, lt-ltb l q.start (omega arith), tail-is star l s (going-leaves star gives going))
        (get_or-set_same b h (Some s) None (omega (arith, w.room, star.few, moves-station star entries h over.0)))
    | inr other ↦ get_or-set_other b h v (Some s) None other ∙ w.places v ∙ grind (arith, nat_tests, moves_over-one t entries l v h)
  ];
}
