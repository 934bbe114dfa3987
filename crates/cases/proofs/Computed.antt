-- The worked cases, computed.
use Rattle.std.specs.Prelude.{◌≡◌, ℕ, List, [], ◌∷◌, map, reverse, Ok, Err, Result, IsOkAnd, refl}
use Rattle.std.proofs.Common.{ap, subst}
use Rattle.refusals.specs.declared.book.BookFault.TheVariants.{Short, Astray}
use Rattle.refusals.specs.declared.list.ListFault.{ListFault}
use Rattle.kinds.specs.declared.airtime.Airtime.{Airtime}
use Rattle.kinds.specs.Shipped.{by_airtime}
use Rattle.net.specs.First.{first_below}
use Rattle.net.specs.Table.{Table, tail_at}
use Rattle.lists.specs.Meaning.{count_below}
use Rattle.walks.specs.Walk.{walk, walk_end, met_back}
use Rattle.runs.specs.Calls.{Call, refuses}
use Rattle.runs.specs.Scan.{after_links, links_acts, after_picks}
use Rattle.runs.specs.Law.{Event, Run, new_book}
use Rattle.runs.specs.Ordered.{by_order}
use Rattle.choice.specs.AnyOrder.{AnyModel, any_order}
use Rattle.choice.specs.Choices.{chosen}
use Rattle.buckets.specs.Firsts.{next_from}
use Rattle.cases.proofs.Carried.{picks_within, run_out}
use Rattle.cases.proofs.Carrying.{run_out-runs}
use Rattle.cases.specs.Worked.{Case, run, refused, overwritten, worked, Stands, AllStand, AirMemory, new_memory, RunsTo, EndsWith, Refuses, with_entry}

-- the calls of these events, carried out from a new book
abbrev ran : Table → List ℕ → List (Event Airtime Airtime) → AnyModel Airtime Airtime → List (Event Airtime Airtime) × AirMemory
ran t grades events m = run_out by_airtime (any_order by_airtime) t ([], new_memory t grades m) (map (λ (e : Event Airtime Airtime). e.call) events)

-- they get these answers, and end in such a memory
abbrev RanTo : Table → List ℕ → List (Event Airtime Airtime) → (AirMemory → Type 0) → AnyModel Airtime Airtime → Type 0
RanTo t grades events Ends m = ((ran t grades events m).0 ≡ reverse events) × Ends (ran t grades events m).1

runs-to : (t : Table) (grades : List ℕ) (events : List (Event Airtime Airtime)) (Ends : AirMemory → Type 0) (m : AnyModel Airtime Airtime)
    → RanTo t grades events Ends m → RunsTo t grades events Ends m
runs-to t grades events Ends m to =
    let new : AirMemory = new_memory t grades m in
    let calls : List (Call Airtime) = map (λ (e : Event Airtime Airtime). e.call) events in
    let end : AirMemory = (ran t grades events m).1 in
    let Led : List (Event Airtime Airtime) → Type 0 = λ log. Run by_airtime (by_order (any_order by_airtime)) t new log end in
    (end, subst Led to.0 (run_out-runs by_airtime (any_order by_airtime) t new ([], new) calls (new_book refl)), to.1)

-- the log, and the labels and entries at the end
abbrev shown : List (Event Airtime Airtime) × AirMemory → List (Event Airtime Airtime) × List ℕ × List ℕ
shown r = (r.0, map (λ (x : Airtime). x.micros) r.1.plan.labels, r.1.plan.entries)

abbrev Shows : Table → List ℕ → List (Event Airtime Airtime) → List ℕ → List ℕ → AnyModel Airtime Airtime → Type 0
Shows t grades events labels entries m = shown (ran t grades events m) ≡ (reverse events, labels, entries)

shows-run : (t : Table) (grades : List ℕ) (events : List (Event Airtime Airtime)) (labels entries : List ℕ) (m : AnyModel Airtime Airtime)
    → Shows t grades events labels entries m → RunsTo t grades events (EndsWith labels entries) m
shows-run t grades events labels entries m e =
    runs-to t grades events (EndsWith labels entries) m (ap (λ r. r.0) e, (ap (λ r. r.1) e, ap (λ r. r.2) e))

made-so : (r : Result (AnyModel Airtime Airtime) ListFault) (P Q : AnyModel Airtime Airtime → Type 0) → ((m : AnyModel Airtime Airtime) → P m → Q m)
    → IsOkAnd r P → IsOkAnd r Q
made-so (Ok m) P Q so p = so m p
made-so (Err e) P Q so p = p

-- what is left to compute of a case
abbrev Computes : Case → Type 0
Computes (run c t grades events labels entries) = IsOkAnd (chosen by_airtime c) (Shows t grades events labels entries)
Computes (refused c t grades events a told) = IsOkAnd (chosen by_airtime c) (RanTo t grades events (Refuses t a told))
Computes (overwritten c t grades events v e a told) = IsOkAnd (chosen by_airtime c) (RanTo t grades events (λ u. Refuses t a told (with_entry u v e)))
Computes c = Stands c

stands : (c : Case) → Computes c → Stands c
stands (run c t grades events labels entries) r =
    made-so (chosen by_airtime c) (Shows t grades events labels entries) _ (shows-run t grades events labels entries) r
stands (refused c t grades events a told) r =
    let Ends : AirMemory → Type 0 = Refuses t a told in
    made-so (chosen by_airtime c) (RanTo t grades events Ends) _ (runs-to t grades events Ends) r
stands (overwritten c t grades events v e a told) r =
    let Ends : AirMemory → Type 0 = λ u. Refuses t a told (with_entry u v e) in
    made-so (chosen by_airtime c) (RanTo t grades events Ends) _ (runs-to t grades events Ends) r
stands c r = r

abbrev AllCompute : List Case → Type 0
AllCompute [] = Unit {0}
AllCompute (c ∷ cs) = Computes c × AllCompute cs

all-of : (cs : List Case) → AllCompute cs → AllStand cs
all-of [] r = tt
all-of (c ∷ cs) r = (stands c r.0, all-of cs r.1)

all-compute : AllCompute worked
unfolding tail_at first_below next_from count_below walk walk_end met_back after_links links_acts after_picks picks_within
all-compute =
    (refl, (refl, (refl, (refl, (refl, (refl, (refl, (refl, (refl, (refl, (refl, (refl, (refl, (refl, (refl, (refl, (refl, (refl, (refl, (refl, (refl, (refl, (refl, (refl, ((refl, (Short 3, refuses refl, refl)), ((refl, (Astray, refuses refl, refl)), (refl, (refl, (refl, (refl, (refl, (refl, tt))))))))))))))))))))))))))))))))

pub all-stand : AllStand worked
all-stand = all-of worked all-compute
