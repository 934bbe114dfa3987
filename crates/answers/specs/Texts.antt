-- The text of answers and troubles.
use Rattle.std.specs.Prelude.{ℕ, List, ◌++◌, length, Some, None, codes, decimal, Option}
use Rattle.std.specs.Fmt.{signed_decimal}
use Rattle.refusals.specs.Texts.{told_text}
use Rattle.lists.specs.declared.list.Entered.{Entered}
use Rattle.lists.specs.declared.list.Entered.TheVariants.{New, Waiting}
use Rattle.choice.specs.Names.{list_word}
use Rattle.answers.specs.Listing.{spaced}
use Rattle.answers.specs.declared.answer.Answer.{Answer}
use Rattle.answers.specs.declared.answer.Answer.TheVariants as answer
use Rattle.answers.specs.declared.answer.Label.{Label}
use Rattle.answers.specs.declared.answer.Label.TheVariants as label
use Rattle.answers.specs.declared.answer.Reached.{Reached}
use Rattle.answers.specs.declared.trouble.Bounds.{Bounds}
use Rattle.answers.specs.declared.trouble.Bounds.TheVariants.{Short, Long, Decibels}
use Rattle.answers.specs.declared.trouble.Trouble.{Trouble}
use Rattle.answers.specs.declared.trouble.Trouble.TheVariants as trouble
use Rattle.answers.specs.declared.trouble.Usage.{Usage}
use Rattle.answers.specs.declared.trouble.Usage.TheVariants as usage
use Rattle.answers.specs.declared.verb.KindName.{KindName}
use Rattle.answers.specs.declared.verb.KindName.TheVariants as name
use Rattle.answers.specs.declared.fault.WayFault.{WayFault}
use Rattle.answers.specs.declared.fault.WayFault.TheVariants as way

abbrev pub kind_text : KindName → List ℕ
kind_text name.Airtime = codes "airtime"
kind_text name.Chance = codes "chance"
kind_text name.Margin = codes "margin"

abbrev pub bounds_text : Bounds → List ℕ
bounds_text Short = codes "0 to 65535"
bounds_text Long = codes "0 to 4294967295"
bounds_text Decibels = codes "-128 to 127"

abbrev pub label_text : Label → List ℕ
label_text (label.Airtime x) = decimal x.micros
label_text (label.Chance x) = decimal x.parts
label_text (label.Margin x) = signed_decimal x.decibels

abbrev pub entered_text : Entered → List ℕ
entered_text New = codes "enter new"
entered_text Waiting = codes "enter waiting"

abbrev pub picked_text : Option ℕ → List ℕ
picked_text None = codes "pick none"
picked_text (Some x) = codes "pick " ++ decimal x

abbrev pub asked_text : Option Reached → ℕ → List ℕ
asked_text None n = codes "ask none " ++ decimal n
asked_text (Some r) n = codes "ask " ++ (label_text r.label ++ (codes " " ++ (decimal r.entry ++ (codes " " ++ decimal n))))

abbrev pub answer_text : Answer → List ℕ
answer_text (answer.Net s l) = codes "net ok " ++ (decimal s ++ (codes " " ++ decimal l))
answer_text (answer.Kind k) = codes "kind " ++ kind_text k
answer_text (answer.Grades n) = codes "grades " ++ decimal n
answer_text (answer.List n) = codes "list " ++ list_word n
answer_text (answer.Path l) = codes "path " ++ label_text l
answer_text answer.Started = codes "start ok"
answer_text (answer.Worked n m) = codes "work " ++ (decimal n ++ (codes " " ++ decimal m))
answer_text (answer.Regraded n m) = codes "regrade " ++ (decimal n ++ (codes " " ++ decimal m))
answer_text (answer.Asked o n) = asked_text o n
answer_text (answer.Route ls) = codes "route " ++ (decimal (length ls) ++ (codes ":" ++ spaced decimal ls))
answer_text answer.Checked = codes "check ok"
answer_text (answer.Labels ls) = codes "labels" ++ spaced label_text ls
answer_text (answer.Entries es) = codes "entries" ++ spaced decimal es
answer_text answer.Poked = codes "poke"
answer_text answer.Resized = codes "resize"
answer_text (answer.Entered e) = entered_text e
answer_text (answer.Picked o) = picked_text o
answer_text answer.Emptied = codes "empty"
answer_text (answer.Waiting n) = codes "waiting " ++ decimal n
answer_text (answer.Refused t) = told_text t

abbrev pub way_text : WayFault → List ℕ
way_text (way.Grades n m) = codes "not a path: " ++ (decimal n ++ (codes " grades for " ++ (decimal m ++ codes " links")))
way_text (way.NoLink l) = codes "not a path: link " ++ (decimal l ++ codes " is not in the net")
way_text (way.Parted l b) = codes "not a path: link " ++ (decimal l ++ (codes " does not begin where link " ++ (decimal b ++ codes " ends")))

abbrev pub usage_text : Usage → List ℕ
usage_text usage.List = codes "list takes first-in, two-ended, small-label, threshold <step> or bucket <width> <span>"
usage_text usage.Start = codes "start takes <gateway>"
usage_text usage.Work = codes "work takes <allowed>"
usage_text usage.Regrade = codes "regrade takes <link> <grade>"
usage_text usage.Ask = codes "ask takes <station>"
usage_text usage.Route = codes "route takes <station> <places>"
usage_text usage.Check = codes "check takes <gateway>"
usage_text usage.Labels = codes "labels takes no words"
usage_text usage.Entries = codes "entries takes no words"
usage_text usage.Poke = codes "poke takes label, entry or grade, then <index> <value>"
usage_text usage.Resize = codes "resize takes labels, entries or grades, then <count>"
usage_text usage.Enter = codes "enter takes <station> [handed]"
usage_text usage.Pick = codes "pick takes [handed]"
usage_text usage.Empty = codes "empty takes no words"
usage_text usage.Waiting = codes "waiting takes no words"

abbrev pub trouble_text : Trouble → List ℕ
trouble_text trouble.Unknown = codes "unknown command"
trouble_text trouble.NoNet = codes "no net yet"
trouble_text (trouble.NotNumber k b) = codes "word " ++ (decimal k ++ (codes " is not a number from " ++ bounds_text b))
trouble_text trouble.NoSlash = codes "net needs one / between starts and heads"
trouble_text trouble.NoKind = codes "kind takes one of airtime, chance, margin"
trouble_text (trouble.Usage u) = usage_text u
trouble_text (trouble.NoLabel n) = codes "there are " ++ (decimal n ++ codes " labels")
trouble_text (trouble.NoEntry n) = codes "there are " ++ (decimal n ++ codes " entries")
trouble_text (trouble.NoGrade n) = codes "there are " ++ (decimal n ++ codes " grades")
trouble_text (trouble.NotPath f) = way_text f
trouble_text trouble.Memory = codes "out of memory"

-- why line n was not carried out
abbrev pub error_text : ℕ → Trouble → List ℕ
error_text n e = codes "error line " ++ (decimal n ++ (codes ": " ++ trouble_text e))
