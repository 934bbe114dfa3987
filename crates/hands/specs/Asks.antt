-- What a line asks for, of the commands on what is held. Its first word is the command itself. The shape of the line is told before its numbers.
use Rattle.std.specs.Prelude.{ℕ, if◌then◌else◌, List, [], ◌∷◌, Some, None, Ok, Err, codes, Option, Result}
use Rattle.std.specs.Str.{bytes_eq}
use Rattle.std.specs.Result.{result_map_both}
use Rattle.refusals.specs.declared.kind.KindFault.{KindFault}
use Rattle.choice.specs.Names.{list_named}
use Rattle.choice.specs.declared.list_name.ListName.{ListName}
use Rattle.choice.specs.declared.list_name.ListName.TheVariants as name
use Rattle.choice.specs.declared.make.Choice.{Choice}
use Rattle.choice.specs.declared.make.Choice.TheVariants as choice
use Rattle.answers.specs.declared.trouble.Bounds.{Bounds}
use Rattle.answers.specs.declared.trouble.Trouble.{Trouble}
use Rattle.answers.specs.declared.trouble.Trouble.TheVariants.{Usage}
use Rattle.answers.specs.declared.trouble.Usage.{Usage as Shape}
use Rattle.answers.specs.declared.trouble.Usage.TheVariants as usage
use Rattle.reading.specs.declared.read.Readable.{Ghosts as Readings}
use Rattle.reading.specs.Reading.{word_read}
use Rattle.reading.specs.Spelling.{short_read, long_read}
use Rattle.reading.specs.Readings.{reads_short}
use Rattle.hands.specs.declared.ask.Regrading.{Regrading}
use Rattle.hands.specs.declared.ask.Routing.{Routing}
use Rattle.hands.specs.declared.ask.Entering.{Entering}
use Rattle.hands.specs.declared.ask.Element.{Element}
use Rattle.hands.specs.declared.ask.Poking.{Poking}
use Rattle.hands.specs.declared.ask.Poking.TheVariants as poking
use Rattle.hands.specs.declared.ask.Resizing.{Resizing}
use Rattle.hands.specs.declared.ask.Resizing.TheVariants as resizing
use Rattle.hands.specs.declared.ask.NotAsked.{NotAsked}
use Rattle.hands.specs.declared.ask.NotAsked.TheVariants.{Refused, Troubled}

abbrev pub and_then : {A B E : Type 0} → Result A E → (A → Result B E) → Result B E
and_then (Ok a) f = f a
and_then (Err e) f = Err e

-- a station, a count or an index, as the k-th word of its line
abbrev pub short_word : List ℕ → ℕ → Result ℕ Trouble
short_word w k = word_read short_read Bounds.Short w k

-- `start`, `work`, `ask` and `check`: one number
abbrev pub number_asked : Shape → List (List ℕ) → Result ℕ Trouble
number_asked u (_ ∷ x ∷ []) = short_word x 2
number_asked u _ = Err (Usage u)

-- `route`: a station, and how many places there are for links
abbrev pub route_asked : List (List ℕ) → Result Routing Trouble
route_asked (_ ∷ x ∷ n ∷ []) =
    and_then (short_word x 2) (λ station. and_then (short_word n 3) (λ places. Ok (record { station = station; places = places })))
route_asked _ = Err (Usage usage.Route)

-- `enter`: a station, and how many labels are handed over, if not all
abbrev pub enter_asked : List (List ℕ) → Result Entering Trouble
enter_asked (_ ∷ x ∷ []) = and_then (short_word x 2) (λ station. Ok (record { station = station; handed = None }))
enter_asked (_ ∷ x ∷ n ∷ []) =
    and_then (short_word x 2) (λ station. and_then (short_word n 3) (λ handed. Ok (record { station = station; handed = Some handed })))
enter_asked _ = Err (Usage usage.Enter)

-- `pick`: how many labels are handed over, if not all
abbrev pub pick_asked : List (List ℕ) → Result (Option ℕ) Trouble
pick_asked (_ ∷ []) = Ok None
pick_asked (_ ∷ n ∷ []) = and_then (short_word n 2) (λ handed. Ok (Some handed))
pick_asked _ = Err (Usage usage.Pick)

-- an index, and a value of the list
abbrev pub element_asked : {T : Type 0} → Readings T → List ℕ → List ℕ → Result (Element T) Trouble
element_asked reading i x =
    and_then (short_word i 3) (λ index. and_then (word_read reading.reads reading.bounds x 4) (λ value. Ok (record { index = index; value = value })))

-- what was read, in a case of a type
abbrev pub read_into : {A B : Type 0} → (A → B) → Result A Trouble → Result B Trouble
read_into f r = result_map_both f (λ e. e) r

module _ {L G : Type 0} (label : Readings L) (grade : Readings G) where
  -- `poke`: an element of the labels, the entries or the grades
  abbrev pub poke_asked : List (List ℕ) → Result (Poking L G) Trouble
  poke_asked (_ ∷ w ∷ i ∷ x ∷ []) =
      if bytes_eq w (codes "label") then read_into poking.Label (element_asked label i x) else
      (if bytes_eq w (codes "entry") then read_into poking.Entry (element_asked reads_short i x) else
      (if bytes_eq w (codes "grade") then read_into poking.Grade (element_asked grade i x) else Err (Usage usage.Poke)))
  poke_asked _ = Err (Usage usage.Poke)

-- `resize`: the labels, the entries or the grades, and how many there are then
abbrev pub resize_asked : List (List ℕ) → Result Resizing Trouble
resize_asked (_ ∷ w ∷ n ∷ []) =
    if bytes_eq w (codes "labels") then read_into resizing.Labels (short_word n 3) else
    (if bytes_eq w (codes "entries") then read_into resizing.Entries (short_word n 3) else
    (if bytes_eq w (codes "grades") then read_into resizing.Grades (short_word n 3) else Err (Usage usage.Resize)))
resize_asked _ = Err (Usage usage.Resize)

-- a trouble, or a refusal, as the reason why nothing is asked for
abbrev pub or_troubled : {A : Type 0} → Result A Trouble → Result A NotAsked
or_troubled r = result_map_both (λ a. a) Troubled r

abbrev pub or_refused : {A : Type 0} → Result A KindFault → Result A NotAsked
or_refused r = result_map_both (λ a. a) Refused r

-- the width and the span of buckets
abbrev pub buckets_asked : {G : Type 0} → List ℕ → List ℕ → Result (Choice G) NotAsked
buckets_asked w s =
    or_troubled (and_then (word_read long_read Bounds.Long w 3) (λ width. and_then (word_read long_read Bounds.Long s 4) (λ span. Ok (choice.Bucket width span))))

module _ {S G : Type 0} (reads : List ℕ → Option S) (bounds : Bounds) (makes : S → Result G KindFault) where
  -- the step of a threshold list
  abbrev pub step_asked : List ℕ → Result (Choice G) NotAsked
  step_asked w = and_then (or_troubled (word_read reads bounds w 3)) (λ spelt. and_then (or_refused (makes spelt)) (λ step. Ok (choice.Threshold step)))

  -- `regrade`: a link and a grade
  abbrev pub regrade_asked : List (List ℕ) → Result (Regrading G) NotAsked
  regrade_asked (_ ∷ l ∷ x ∷ []) =
      and_then (or_troubled (short_word l 2)) (λ link. and_then (or_troubled (word_read reads bounds x 3)) (λ spelt.
      and_then (or_refused (makes spelt)) (λ grade. Ok (record { link = link; grade = grade }))))
  regrade_asked _ = Err (Troubled (Usage usage.Regrade))

  -- a list by its name, and the words after that
  abbrev pub list_asked : Option ListName → List (List ℕ) → Result (Choice G) NotAsked
  list_asked (Some name.FirstIn) [] = Ok choice.FirstIn
  list_asked (Some name.TwoEnded) [] = Ok choice.TwoEnded
  list_asked (Some name.SmallLabel) [] = Ok choice.SmallLabel
  list_asked (Some name.Threshold) (step ∷ []) = step_asked step
  list_asked (Some name.Bucket) (width ∷ span ∷ []) = buckets_asked width span
  list_asked _ _ = Err (Troubled (Usage usage.List))

  -- `list`: the list that is chosen, or the refusal of a step that is no grade (a chance above 65536)
  abbrev pub choice_asked : List (List ℕ) → Result (Choice G) NotAsked
  choice_asked (_ ∷ w ∷ ws) = list_asked (list_named w) ws
  choice_asked _ = Err (Troubled (Usage usage.List))
