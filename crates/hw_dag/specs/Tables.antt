-- What is kept beside the units of a graph to find them.
use Rattle.std.specs.Prelude.{◌≡◌, ◌≢◌, ℕ, ◌^◌, ◌<◌, ◌≤◌, ◌⊎◌, true, List, length, map, Option, Some, None}
use Rattle.hw_types.specs.declared.unit.Digest.{Digest}
use Rattle.hw_types.specs.declared.unit.SignedUnit.{SignedUnit}
use Rattle.hw_dag.specs.declared.numbers.UnitNo.{UnitNo}
use Rattle.hw_dag.specs.declared.numbers.View.{View}
use Rattle.hw_dag.specs.declared.numbers.View.TheVariants as view
use Rattle.hw_types.specs.declared.unit.Obs.{Obs}
use Rattle.hw_types.specs.declared.unit.Obs.TheVariants.{Correct}
use Rattle.hw_dag.specs.Dag.{SettledUnit, UnitGraph, unit_at, count_of, creator_of, view_at, obs_of}
use Rattle.hw_dag.specs.Admission.{IsGraph, IsNew}
use Rattle.hw_dag.specs.Lanes.{is_lane_below}

-- the unit that a slot names
abbrev pub number_of : View → Option UnitNo
number_of view.Absent = None
number_of (view.Correct number) = Some number
number_of view.Faulty = None

-- the unit that comes before it on its lane
abbrev pub predecessor_of : SettledUnit → Option UnitNo
predecessor_of u = number_of (view_at u.panorama (creator_of u))

-- the names of the units, in the order of their numbers
abbrev pub names_of : List SettledUnit → List Digest
names_of units = map (λ (u : SettledUnit). u.digest) units

-- the steps back along lanes
abbrev pub lanes_of : List SettledUnit → List (Option UnitNo)
lanes_of units = map predecessor_of units

-- the steps back along parents
abbrev pub chains_of : List SettledUnit → List (Option UnitNo)
chains_of units = map (λ (u : SettledUnit). u.parent) units

-- the tables are those of the units
pub record IsKept (dag : UnitGraph) (names : List Digest) (lanes chains : List (Option UnitNo)) : Type 0 where
  pub graph_is : IsGraph dag
  pub names_are : names ≡ names_of dag.units
  pub lanes_are : lanes ≡ lanes_of dag.units
  pub chains_are : chains ≡ chains_of dag.units

-- the unit is on the lane of the latest one; Faulty is for a validator whose units aren't known to be on one lane
abbrev pub LeadsUpTo : UnitGraph → ℕ → View → Type 0
LeadsUpTo dag n view.Absent = ⊥
LeadsUpTo dag n (view.Correct last) = is_lane_below dag n last.0 ≡ true
LeadsUpTo dag n view.Faulty = Unit {0}

-- of each validator the unit that all its units lead up to
pub record AreLatest (dag : UnitGraph) (latest : List View) : Type 0 where
  pub length_is : length latest ≡ dag.validators
  pub known : (v : ℕ) (last : UnitNo) → view_at latest v ≡ view.Correct last → last.0 < count_of dag
  pub each : (n : ℕ) → n < count_of dag → LeadsUpTo dag n (view_at latest (creator_of (unit_at dag n)))

-- no validator's units may be on two lanes
abbrev pub NoneFaulty : List View → Type 0
NoneFaulty latest = (v : ℕ) → view_at latest v ≢ view.Faulty

-- the new unit is the latest where it is the first of its creator or follows the latest one
abbrev pub IsLatestAfter : View → Option UnitNo → UnitNo → View → Type 0
IsLatestAfter latest before number next = (next ≡ view.Faulty)
    ⊎ ((next ≡ view.Correct number) × ((latest ≡ view.Absent) ⊎ ((last : UnitNo) × (latest ≡ view.Correct last) × (before ≡ Some last))))

-- each table has room for so many more units
pub record HasSpare (spare units names lanes chains : ℕ) : Type 0 where
  pub in_units : spare ≤ units
  pub in_names : spare ≤ names
  pub in_lanes : spare ≤ lanes
  pub in_chains : spare ≤ chains

-- a slot for each observation
pub record HasSlots (unit : SignedUnit) (panorama : List View) : Type 0 where
  pub bounded : length panorama < 2 ^ 32
  pub length_is : length panorama ≡ length unit.unit.panorama

-- the slot in numbers stands for the observation
pub record StandsFor (dag : UnitGraph) (o : Obs) (w : View) : Type 0 where
  pub same : obs_of dag w ≡ o
  pub known : (number : UnitNo) → w ≡ view.Correct number → number.0 < count_of dag

-- the observation names a unit that the graph hasn't
pub record IsUnknown (dag : UnitGraph) (o : Obs) : Type 0 where
  pub digest : Digest
  pub names : o ≡ Correct digest
  pub fresh : IsNew dag digest

-- each number in the panorama is a unit of the graph
abbrev pub IsKnown : UnitGraph → List View → Type 0
IsKnown dag panorama = (v : ℕ) (number : UnitNo) → view_at panorama v ≡ view.Correct number → number.0 < count_of dag
