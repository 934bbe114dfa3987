-- What each command answers, and what it leaves: the site before, the words of its line, the answer, and the site after.
use Rattle.std.specs.Prelude.{◌≡◌, ℕ, Bool, ◌⊎◌, List, [], ◌∷◌, drop, Some, None, Ok, Err, MatchBool, Option, Result, ◌==◌, pos, slice_index}
use Rattle.refusals.specs.declared.net.NetFault.{NetFault}
use Rattle.refusals.specs.Tells.{net_tells}
use Rattle.net.specs.Table.{Table, station_count, link_count}
use Rattle.net.specs.Judged.{net_fault}
use Rattle.answers.specs.declared.answer.Answer.{Answer}
use Rattle.answers.specs.declared.answer.Answer.TheVariants as answer
use Rattle.answers.specs.declared.trouble.Trouble.{Trouble}
use Rattle.answers.specs.declared.trouble.Trouble.TheVariants.{Unknown, NoNet, NoKind, NotPath, Memory}
use Rattle.answers.specs.declared.verb.KindName.{KindName}
use Rattle.answers.specs.declared.verb.Verb.{Verb}
use Rattle.answers.specs.declared.verb.Verb.TheVariants as verb
use Rattle.answers.specs.declared.verb.SiteVerb.{SiteVerb}
use Rattle.answers.specs.declared.verb.SiteVerb.TheVariants as asked
use Rattle.answers.specs.declared.verb.HeldVerb.{HeldVerb}
use Rattle.answers.specs.declared.answer.Label.{Label}
use Rattle.answers.specs.declared.trouble.Bounds.{Bounds}
use Rattle.answers.specs.declared.fault.WayFault.{WayFault}
use Rattle.kinds.specs.declared.airtime.Airtime.{Airtime}
use Rattle.kinds.specs.declared.chance.Chance.{Chance}
use Rattle.kinds.specs.declared.margin.Margin.{Margin}
use Rattle.kinds.specs.Airtimes.{airtime_of}
use Rattle.kinds.specs.Chances.{chance_made, chance_read}
use Rattle.kinds.specs.Margins.{margin_of}
use Rattle.kinds.specs.Shipped.{by_airtime, by_chance, by_margin}
use Rattle.hands.specs.Held.{HeldBy}
use Rattle.hands.specs.Lines.{HeldLine}
use Rattle.site.specs.Model.{Model, AnyHeld, airtimes, chances, margins, new_in}
use Rattle.script.specs.Words.{words_of}
use Rattle.answers.specs.Outcomes.{Outcome, troubled, answered, Came}
use Rattle.reading.specs.Nets.{net_read}
use Rattle.site.specs.Plots.{fresh}
use Rattle.reading.specs.Reading.{read_all}
use Rattle.reading.specs.Spelling.{short_read}
use Rattle.reading.specs.Readings.{reads_long, reads_airtime, reads_chance, reads_margin}
use Rattle.site.specs.Ways.{Proposed}
use Rattle.answers.specs.Verbs.{verb_of, kind_named}

-- `net`: a new site over the two lists, if they are a net
abbrev pub judged_net : Option Model → Table → Option NetFault → Outcome (Option Model)
judged_net o t (Some f) = answered (answer.Refused (net_tells f)) o
judged_net o t None = answered (answer.Net (station_count t) (link_count t)) (Some (fresh t))

abbrev pub opened : Option Model → Result Table Trouble → Outcome (Option Model)
opened o (Err e) = troubled e o
opened o (Ok t) = judged_net o t (net_fault t)

abbrev pub NetLine : Option Model → List (List ℕ) → Result Answer Trouble → Option Model → Type 0
NetLine o ws r p = Came (opened o (net_read ws)) o r p

-- `kind`: one word that names a kind; what is held is new
abbrev pub kind_chosen : Model → Option KindName → Outcome Model
kind_chosen m None = troubled NoKind m
kind_chosen m (Some k) = answered (answer.Kind k) (record { links = m.links; held = new_in k m.links })

abbrev pub kind_outcome : Model → List (List ℕ) → Outcome Model
kind_outcome m (_ ∷ w ∷ []) = kind_chosen m (kind_named w)
kind_outcome m _ = troubled NoKind m

abbrev pub KindLine : Model → List (List ℕ) → Result Answer Trouble → Model → Type 0
KindLine m ws r n = Came (kind_outcome m ws) m r n

-- `path`: what is answered of a way is what holds of it as a proposal, in the kind that the site has
abbrev pub said : {L : Type 0} → (L → Label) → Result L WayFault → Result Answer Trouble
said label (Ok x) = Ok (answer.Path (label x))
said label (Err f) = Err (NotPath f)

abbrev pub Graded : Table → AnyHeld → List ℕ → Result Answer Trouble → Type 0
Graded t (airtimes h) way r = (x : Result Airtime WayFault) × Proposed by_airtime t h.grades way x × (r ≡ said Label.Airtime x)
Graded t (chances h) way r = (x : Result Chance WayFault) × Proposed by_chance t h.grades way x × (r ≡ said Label.Chance x)
Graded t (margins h) way r = (x : Result Margin WayFault) × Proposed by_margin t h.grades way x × (r ≡ said Label.Margin x)

abbrev pub GradedOr : Model → Result (List ℕ) Trouble → Result Answer Trouble → Type 0
GradedOr m (Err e) r = r ≡ Err e
GradedOr m (Ok way) r = Graded m.links m.held way r

abbrev pub PathLine : Model → List (List ℕ) → Result Answer Trouble → Type 0
PathLine m ws r = (r ≡ Err Memory) ⊎ GradedOr m (read_all short_read Bounds.Short 2 (drop 1 ws)) r

-- what is asked of what the site holds, in the kind that it has
abbrev pub HeldIn : Table → HeldVerb → AnyHeld → List (List ℕ) → Result Answer Trouble → AnyHeld → Type 0
HeldIn t v (airtimes h) ws r n =
    (x : HeldBy Airtime Airtime) × HeldLine by_airtime reads_airtime Label.Airtime reads_airtime reads_airtime Ok (airtime_of 0) t v h ws r x × (n ≡ airtimes x)
HeldIn t v (chances h) ws r n =
    (x : HeldBy Chance Chance) × HeldLine by_chance reads_chance Label.Chance reads_chance reads_long chance_made (chance_read 0) t v h ws r x × (n ≡ chances x)
HeldIn t v (margins h) ws r n =
    (x : HeldBy Margin Margin) × HeldLine by_margin reads_margin Label.Margin reads_margin reads_margin Ok (margin_of (pos 0)) t v h ws r x × (n ≡ margins x)

-- what a line comes to that asks something of an open site
abbrev pub SiteLine : SiteVerb → Model → List (List ℕ) → Result Answer Trouble → Model → Type 0
SiteLine asked.Kind m ws r n = KindLine m ws r n
SiteLine asked.Path m ws r n = PathLine m ws r × (n ≡ m)
SiteLine (asked.Held v) m ws r n = (x : AnyHeld) × HeldIn m.links v m.held ws r x × (n ≡ record { links = m.links; held = x })

-- without a site there is no net yet
abbrev pub OnSite : (Model → Result Answer Trouble → Model → Type 0) → Option Model → Result Answer Trouble → Option Model → Type 0
OnSite Does None r p = (r ≡ Err NoNet) × (p ≡ None)
OnSite Does (Some m) r p = (n : Model) × Does m r n × (p ≡ Some n)

-- what a line comes to, by its first word
abbrev pub Commanded : Option Verb → Option Model → List (List ℕ) → Result Answer Trouble → Option Model → Type 0
Commanded None o ws r p = (r ≡ Err Unknown) × (p ≡ o)
Commanded (Some verb.Net) o ws r p = NetLine o ws r p
Commanded (Some (verb.Site v)) o ws r p = OnSite (λ m s n. SiteLine v m ws s n) o r p

-- a command's answer is the line's
abbrev pub as_line : Result Answer Trouble → Result (Option Answer) Trouble
as_line (Ok a) = Ok (Some a)
as_line (Err e) = Err e

-- a line whose first word begins with `#`
abbrev pub comment : List ℕ → Bool
comment w = slice_index w 0 == 35

-- a line without a word, or that is a comment, has no answer; any other is a command
abbrev pub Obeys : Option Model → List (List ℕ) → Result (Option Answer) Trouble → Option Model → Type 0
Obeys o [] r p = (r ≡ Ok None) × (p ≡ o)
Obeys o (w ∷ ws) r p =
    MatchBool (comment w) ((r ≡ Ok None) × (p ≡ o)) ((a : Result Answer Trouble) × (r ≡ as_line a) × Commanded (verb_of w) o (w ∷ ws) a p)

-- a line of bytes, which may also fail for want of memory
abbrev pub Obeyed : Option Model → List ℕ → Result (Option Answer) Trouble → Option Model → Type 0
Obeyed o line r p = ((r ≡ Err Memory) × (p ≡ o)) ⊎ Obeys o (words_of line) r p
