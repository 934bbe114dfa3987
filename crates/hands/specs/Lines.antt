-- What a line comes to that asks something of what a site holds beside its net, in any kind.
use Rattle.std.specs.Prelude.{ℕ, List, drop, Result}
use Rattle.refusals.specs.declared.kind.KindFault.{KindFault}
use Rattle.kinds.specs.declared.kind.Kind.{Ghosts}
use Rattle.net.specs.Table.{Table}
use Rattle.answers.specs.declared.answer.Answer.{Answer}
use Rattle.answers.specs.declared.answer.Label.{Label}
use Rattle.answers.specs.declared.trouble.Trouble.{Trouble}
use Rattle.answers.specs.declared.trouble.Usage.TheVariants as usage
use Rattle.answers.specs.declared.verb.HeldVerb.{HeldVerb}
use Rattle.answers.specs.declared.verb.HeldVerb.TheVariants as asked
use Rattle.answers.specs.Outcomes.{Does, Came}
use Rattle.reading.specs.declared.read.Readable.{Ghosts as Readings}
use Rattle.reading.specs.Reading.{read_all}
use Rattle.hands.specs.Held.{HeldBy}
use Rattle.hands.specs.Acts.{regraded, checked, labels_listed, entries_listed, poked, resizes, chose, entered, picked, emptied, waited}
use Rattle.hands.specs.Asks.{number_asked, enter_asked, pick_asked, poke_asked, resize_asked, choice_asked}
use Rattle.hands.specs.Calls.{CallLine, ByRules}

-- labels, the grades of a list, and what a grade is made of that stands by itself, each read from words; a label as answers have it; and grade 0
module _ {K L G S : Type 0} (k : Ghosts K L G) (label : Readings L) (shown : L → Label) (grade : Readings G) (single : Readings S) (makes : S → Result G KindFault) (zero : G) where
  -- beside `route`, what takes memory is `grades`, `labels`, `entries` and `resize`: the others never want any
  abbrev pub HeldLine : Table → HeldVerb → HeldBy L G → List (List ℕ) → Result Answer Trouble → HeldBy L G → Type 0
  HeldLine t asked.Grades h ws r n = Came (regraded h (read_all grade.reads grade.bounds 2 (drop 1 ws))) h r n
  HeldLine t asked.List h ws r n = Does (chose k h (choice_asked single.reads single.bounds makes ws)) r n
  HeldLine t (asked.Call v) h ws r n = CallLine shown (ByRules k t) single makes v h ws r n
  HeldLine t asked.Check h ws r n = Does (checked k t h (number_asked usage.Check ws)) r n
  HeldLine t asked.Labels h ws r n = Came (labels_listed shown h ws) h r n
  HeldLine t asked.Entries h ws r n = Came (entries_listed h ws) h r n
  HeldLine t asked.Poke h ws r n = Does (poked h (poke_asked label grade ws)) r n
  HeldLine t asked.Resize h ws r n = Came (resizes k zero h (resize_asked ws)) h r n
  HeldLine t asked.Enter h ws r n = Does (entered k h (enter_asked ws)) r n
  HeldLine t asked.Pick h ws r n = Does (picked k h (pick_asked ws)) r n
  HeldLine t asked.Empty h ws r n = Does (emptied k h ws) r n
  HeldLine t asked.Waiting h ws r n = Does (waited k h ws) r n
