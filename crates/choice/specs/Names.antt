-- The candidate lists by their numbers and names.
use Rattle.std.specs.Prelude.{ℕ, if◌then◌else◌, List, Some, None, codes, Option, ◌==◌}
use Rattle.std.specs.Str.{bytes_eq}
use Rattle.choice.specs.declared.list_name.ListName.{ListName}
use Rattle.choice.specs.declared.list_name.ListName.TheVariants.{FirstIn, TwoEnded, SmallLabel, Threshold, Bucket}

abbrev pub list_number : ListName → ℕ
list_number FirstIn = 0
list_number TwoEnded = 1
list_number SmallLabel = 2
list_number Threshold = 3
list_number Bucket = 4

abbrev pub list_numbered : ℕ → Option ListName
list_numbered n =
    if n == 0 then Some FirstIn
    else (if n == 1 then Some TwoEnded
    else (if n == 2 then Some SmallLabel
    else (if n == 3 then Some Threshold
    else (if n == 4 then Some Bucket else None))))

abbrev pub list_word : ListName → List ℕ
list_word FirstIn = codes "first-in"
list_word TwoEnded = codes "two-ended"
list_word SmallLabel = codes "small-label"
list_word Threshold = codes "threshold"
list_word Bucket = codes "bucket"

abbrev pub list_named : List ℕ → Option ListName
list_named w =
    if bytes_eq w (codes "first-in") then Some FirstIn
    else (if bytes_eq w (codes "two-ended") then Some TwoEnded
    else (if bytes_eq w (codes "small-label") then Some SmallLabel
    else (if bytes_eq w (codes "threshold") then Some Threshold
    else (if bytes_eq w (codes "bucket") then Some Bucket else None))))
