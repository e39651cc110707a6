-- Names of units below a panorama.
use Rattle.std.specs.Prelude.{◌≡◌, ℕ, ◌<◌, ◌≤◌, ◌↔◌, Bool, true, List}
use Rattle.hw_types.specs.declared.unit.Digest.{Digest}
use Rattle.hw_types.specs.Below.{Among}
use Rattle.hw_dag.specs.declared.numbers.View.{View}
use Rattle.hw_dag.specs.Dag.{UnitGraph, unit_at, count_of}
use Rattle.hw_dag.specs.Lanes.{is_seen, IsBelow}
use Rattle.hw_dag.specs.Walks.{is_marked, IsInNoSlot}

-- the name is that of an observed unit or of one below it
pub record NamesBelow (dag : UnitGraph) (panorama : List View) (name : Digest) : Type 0 where
  pub number : ℕ
  pub known : number < count_of dag
  pub named : (unit_at dag number).digest ≡ name
  pub below : IsBelow dag panorama number

-- each of these names is
abbrev pub AllNameBelow : UnitGraph → List View → List Digest → Type 0
AllNameBelow dag panorama names = (name : Digest) → Among name names → NamesBelow dag panorama name

-- the name is that of a unit, and one before number `low` is an observed unit or below it
pub record NamesBefore (dag : UnitGraph) (panorama : List View) (low : ℕ) (name : Digest) : Type 0 where
  pub number : ℕ
  pub known : number < count_of dag
  pub named : (unit_at dag number).digest ≡ name
  pub below : number < low → IsBelow dag panorama number

-- each of these names is
abbrev pub AllNameBefore : UnitGraph → List View → ℕ → List Digest → Type 0
AllNameBefore dag panorama low names = (name : Digest) → Among name names → NamesBefore dag panorama low name

-- the marks before the top tell of each unit from `low` on that no slot names whether it is below one that a slot names
abbrev pub TellsBelow : UnitGraph → List View → ℕ → ℕ → List Bool → Type 0
TellsBelow dag slots low top marked = (n : ℕ) → low ≤ n → n < count_of dag → IsInNoSlot slots n → ((n < top) × (is_marked marked n ≡ true)) ↔ IsBelow dag slots n

-- ---- units with one of several names

-- the unit of that number has one of these names
pub record HasNameAmong (dag : UnitGraph) (names : List Digest) (n : ℕ) : Type 0 where
  pub name : Digest
  pub among : Among name names
  pub known : n < count_of dag
  pub named : (unit_at dag n).digest ≡ name

-- a unit with one of these names is unit n or has it below it
pub record IsBelowSomeNamed (dag : UnitGraph) (names : List Digest) (n : ℕ) : Type 0 where
  pub name : Digest
  pub among : Among name names
  pub number : ℕ
  pub known : number < count_of dag
  pub named : (unit_at dag number).digest ≡ name
  pub seen : is_seen dag n number ≡ true

-- the marks serve for each unit with one of these names
abbrev pub HasRoomForNamed : UnitGraph → List Digest → ℕ → Type 0
HasRoomForNamed dag names room = (n : ℕ) → HasNameAmong dag names n → n ≤ room

-- where the unit of this name has unit `low` below it, it comes after that and not after the top; the top is 0 or the number of the unit
pub record IsTopOf (dag : UnitGraph) (name : Digest) (low top : ℕ) : Type 0 where
  pub within : (n : ℕ) → n < count_of dag → (unit_at dag n).digest ≡ name → is_seen dag low n ≡ true → (low < n) × (n ≤ top)
  pub one : 0 < top → (top < count_of dag) × ((unit_at dag top).digest ≡ name)

-- the same of all units with one of these names
pub record IsTopOfNamed (dag : UnitGraph) (names : List Digest) (low top : ℕ) : Type 0 where
  pub within : (n : ℕ) → HasNameAmong dag names n → is_seen dag low n ≡ true → (low < n) × (n ≤ top)
  pub one : 0 < top → HasNameAmong dag names top
