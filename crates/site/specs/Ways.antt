-- What is answered of a way that an installer proposes.
use Rattle.std.specs.Prelude.{◌≡◌, ℕ, ◌+◌, List, [], ◌∷◌, length, Some, Ok, Err, Result, ◌≢◌, slice_index}
use Rattle.std.specs.Option.{unwrap_or}
use Rattle.kinds.specs.declared.kind.Kind.{Ghosts}
use Rattle.net.specs.Table.{Table, link_count, tail_of}
use Rattle.paths.specs.declared.grade.NotPath.TheVariants as path
use Rattle.paths.specs.Answer.{breaks}
use Rattle.paths.specs.Grade.{path_grade}
use Rattle.paths.specs.Path.{PathFrom}
use Rattle.answers.specs.declared.fault.WayFault.{WayFault}
use Rattle.answers.specs.declared.fault.WayFault.TheVariants.{Grades, NoLink, Parted}

-- where a way begins: at the tail of its first link, or at station 0 where it has none
abbrev pub beginning : Table → List ℕ → ℕ
beginning t [] = 0
beginning t (l ∷ p) = unwrap_or (tail_of t l) 0

-- place i of the way is the first at which it breaks off, for want of a link
pub record Missing (t : Table) (way : List ℕ) (l : ℕ) : Type 0 where
  pub place : ℕ
  pub first : breaks t 0 (beginning t way) way ≡ Some (path.NoLink place)
  pub link : l ≡ slice_index way place

-- or because the link there does not follow the one before
pub record Apart (t : Table) (way : List ℕ) (l before : ℕ) : Type 0 where
  pub place : ℕ
  pub first : breaks t 0 (beginning t way) way ≡ Some (path.Parted (place + 1))
  pub link : l ≡ slice_index way (place + 1)
  pub prior : before ≡ slice_index way place

-- why a way has no grade where there are so many grades
abbrev pub Faulted : Table → ℕ → List ℕ → WayFault → Type 0
Faulted t count way (Grades n m) = (n ≡ count) × (m ≡ link_count t) × (n ≢ m)
Faulted t count way (NoLink l) = (count ≡ link_count t) × Missing t way l
Faulted t count way (Parted l before) = (count ≡ link_count t) × Apart t way l before

module _ {K L G : Type 0} (k : Ghosts K L G) where
  -- an accepted way is a path, and the answer is its grade
  abbrev pub Proposed : Table → List G → List ℕ → Result L WayFault → Type 0
  Proposed t grades way (Ok x) = (length grades ≡ link_count t) × PathFrom t (beginning t way) way × (path_grade k grades way ≡ Some x)
  Proposed t grades way (Err f) = Faulted t (length grades) way f
