-- Which refusal two lists meet that are to be a net.
use Rattle.std.specs.Prelude.{ℕ, ◌+◌, ◌-◌, Bool, if◌then◌else◌, not, ◌||◌, List, length, is_some, Some, None, Ok, Err, Option, Result, ◌==◌, nat_le, nat_lt, slice_index}
use Rattle.refusals.specs.declared.net.NetFault.{NetFault}
use Rattle.refusals.specs.declared.net.NetFault.TheVariants.{Stations, Links, Starts, Head}
use Rattle.net.specs.First.{first_below}
use Rattle.net.specs.Table.{Table}

-- start k is above the next
abbrev pub falls : List ℕ → ℕ → Bool
falls starts k = nat_lt (slice_index starts (k + 1)) (slice_index starts k)

-- the starts do not begin at 0, fall, or do not end at the number of links
abbrev pub misled : List ℕ → ℕ → Bool
misled starts links =
    not (slice_index starts 0 == 0)
    || (is_some (first_below (falls starts) (length starts - 1)) || not (slice_index starts (length starts - 1) == links))

-- the head of link k is no station
abbrev pub stray : ℕ → List ℕ → ℕ → Bool
stray stations heads k = nat_le stations (slice_index heads k)

abbrev pub head_fault : Option ℕ → Option NetFault
head_fault None = None
head_fault (Some k) = Some (Head k)

-- the first refusal that the lists meet, or none
abbrev pub net_fault : Table → Option NetFault
net_fault t =
    if nat_lt (length t.starts) 2 || nat_lt 1025 (length t.starts) then Some Stations
    else if nat_lt 4096 (length t.heads) then Some Links
    else if misled t.starts (length t.heads) then Some Starts
    else head_fault (first_below (stray (length t.starts - 1) t.heads) (length t.heads))

-- the answer of a test that refuses what is told
abbrev pub judged : {E : Type 0} → Option E → Result (Unit {0}) E
judged None = Ok tt
judged (Some e) = Err e
