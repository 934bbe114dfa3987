-- The order of the two-ended list (D'Esopo–Pape): a station's first entry since emptying goes to the bottom, a later one to the top.
use Rattle.std.specs.Prelude.{◌≡◌, ℕ, ◌<◌, Bool, true, false, List, [], ◌∷◌, ◌++◌, replicate, slice_index_or, slice_set, if◌then◌else◌}
use Rattle.lists.specs.Order.{Order}
use Rattle.lists.specs.Runs.{Step, run, enters}
use Rattle.lists.specs.Stations.{holds, top_of, rest_of}
use Rattle.lists.specs.Queues.{line_of}
use Rattle.lists.specs.declared.two_ended.TwoEnded.{TwoEnded}

-- the queue from top to bottom, and of each station whether it has entered since emptying
pub record TwoEnds : Type 0 where
  pub line : List ℕ
  pub seen : List Bool

abbrev pub ends : TwoEnded → TwoEnds
ends s = record { line = line_of s.queue; seen = s.seen }

abbrev pub no_ends : TwoEnds
no_ends = record { line = []; seen = replicate 1024 false }

-- the station x, which does not wait, enters
abbrev pub to_its_end : TwoEnds → ℕ → TwoEnds
to_its_end m x = record { line = (if slice_index_or m.seen x false then x ∷ m.line else m.line ++ x ∷ []); seen = slice_set m.seen x true }

abbrev pub two_ended : {A : Type 0} → Order TwoEnds A
two_ended = record {
  waiting = λ m k. holds m.line k;
  cleared = λ m. no_ends;
  entering = λ m x ls. if holds m.line x then m else to_its_end m x;
  picking = λ m ls. (top_of m.line, record { line = rest_of m.line; seen = m.seen });
}

-- After any run since emptying, a station that does not wait and enters goes to the top if it entered before in that run, else to the bottom.
abbrev pub BackOnTop : Type 0 → Type 0
BackOnTop A =
    (steps : List (Step A)) (x : ℕ) (ls : List A) → x < 1024 → holds (run two_ended no_ends steps).line x ≡ false
    → (two_ended.entering (run two_ended no_ends steps) x ls).line ≡ (if enters x steps then x ∷ (run two_ended no_ends steps).line else (run two_ended no_ends steps).line ++ x ∷ [])
