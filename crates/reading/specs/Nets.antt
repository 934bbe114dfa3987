-- The two lists of a `net` line.
use Rattle.std.specs.Prelude.{ℕ, ◌+◌, Bool, if◌then◌else◌, not, List, length, take, drop, Ok, Err, codes, Result, nat_lt}
use Rattle.std.specs.List.{prefix_len}
use Rattle.std.specs.Str.{bytes_eq}
use Rattle.net.specs.Table.{Table, table}
use Rattle.answers.specs.declared.trouble.Bounds.{Bounds}
use Rattle.answers.specs.declared.trouble.Trouble.{Trouble}
use Rattle.answers.specs.declared.trouble.Trouble.TheVariants.{NoSlash}
use Rattle.reading.specs.Reading.{read_all}
use Rattle.reading.specs.Spelling.{short_read}

abbrev pub no_slash : List ℕ → Bool
no_slash w = not (bytes_eq w (codes "/"))

-- the index of the first `/` after word 0, or the number of words
abbrev pub slash_at : List (List ℕ) → ℕ
slash_at ws = 1 + prefix_len no_slash (drop 1 ws)

abbrev pub with_heads : List ℕ → Result (List ℕ) Trouble → Result Table Trouble
with_heads starts (Ok heads) = Ok (table starts heads)
with_heads starts (Err e) = Err e

-- the starts stand before the `/`, and the heads after it
abbrev pub with_starts : List (List ℕ) → ℕ → Result (List ℕ) Trouble → Result Table Trouble
with_starts ws at (Err e) = Err e
with_starts ws at (Ok starts) =
    if nat_lt at (length ws) then with_heads starts (read_all short_read Bounds.Short (at + 1 + 1) (drop (at + 1) ws)) else Err NoSlash

abbrev pub net_read : List (List ℕ) → Result Table Trouble
net_read ws = with_starts ws (slash_at ws) (read_all short_read Bounds.Short 2 (drop 1 (take (slash_at ws) ws)))
