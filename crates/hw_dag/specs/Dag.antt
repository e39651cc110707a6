-- A graph of settled units in the order of their admission, which is that of their numbers, and how it stands to the definitions.
use Rattle.std.specs.Prelude.{◌≡◌, ℕ, ◌<◌, List, [], ◌++◌, length, map, Option, None, slice_index_or}
use Rattle.hw_types.specs.declared.unit.Digest.{Digest}
use Rattle.hw_types.specs.declared.unit.SignedUnit.{SignedUnit}
use Rattle.hw_types.specs.declared.unit.Obs.{Obs}
use Rattle.hw_types.specs.declared.unit.Obs.TheVariants.{Absent, Correct, Faulty}
use Rattle.hw_types.specs.Graph.{Node}
use Rattle.hw_types.specs.ByName.{by_name}
use Rattle.hw_dag.specs.declared.numbers.UnitNo.{UnitNo}
use Rattle.hw_dag.specs.declared.numbers.View.{View}
use Rattle.hw_dag.specs.declared.numbers.View.TheVariants as view

-- a settled unit: its name, the unit as it was signed, its panorama in numbers, its vote, and where it is a block its parent and height
pub record SettledUnit : Type 0 where
  pub digest : Digest
  pub signed : SignedUnit
  pub panorama : List View
  pub vote : UnitNo
  pub parent : Option UnitNo
  pub height : Option ℕ

-- a graph: its units by number, and how many more it has room for
pub record UnitGraph : Type 0 where
  pub validators : ℕ
  pub spare : ℕ
  pub units : List SettledUnit

-- ---- units by number

-- what stands for a unit where a number has none
unfoldable pub stand_in : SettledUnit
stand_in = record {
  digest = record { 0 = [] };
  signed = record {
    unit = record { instance = record { 0 = [] }; creator = 0; seq = 0; time = 0; exponent = 0; panorama = []; value = None; endorsed = [] };
    signature = record { 0 = [] };
  };
  panorama = [];
  vote = record { 0 = 0 };
  parent = None;
  height = None;
}

-- the unit of a number
abbrev pub unit_at : UnitGraph → ℕ → SettledUnit
unit_at dag n = slice_index_or dag.units n stand_in

-- how many units there are
abbrev pub count_of : UnitGraph → ℕ
count_of dag = length dag.units

-- who made the unit
abbrev pub creator_of : SettledUnit → ℕ
creator_of u = u.signed.unit.creator

-- its sequence number
abbrev pub seq_of : SettledUnit → ℕ
seq_of u = u.signed.unit.seq

-- ---- the graph of the definitions

-- a unit as the definitions see it
abbrev pub node_of : SettledUnit → Node
node_of u = record { digest = u.digest; unit = u.signed.unit }

-- the unit of a number, as the definitions see it
abbrev pub node_at : UnitGraph → ℕ → Node
node_at dag n = node_of (unit_at dag n)

-- the units in the order of their names
unfoldable pub by_name_of : List SettledUnit → List Node
by_name_of units = by_name (map node_of units)

-- the graph that the definitions speak of: the same units, by name
abbrev pub graph : UnitGraph → List Node
graph dag = by_name_of dag.units

-- ---- panoramas in numbers

-- the slot of a validator
abbrev pub view_at : List View → ℕ → View
view_at panorama v = slice_index_or panorama v view.Absent

-- a slot as it is observed: a number stands for the name of its unit
abbrev pub obs_of : UnitGraph → View → Obs
obs_of dag view.Absent = Absent
obs_of dag (view.Correct number) = Correct (unit_at dag number.0).digest
obs_of dag view.Faulty = Faulty

-- a panorama in numbers as the observations that it stands for
abbrev pub observations : UnitGraph → List View → List Obs
observations dag panorama = map (obs_of dag) panorama

-- one slot for each validator of the graph, and each number in it is a unit of that slot's validator
pub record IsPanorama (dag : UnitGraph) (panorama : List View) : Type 0 where
  pub length_is : length panorama ≡ dag.validators
  pub known : (v : ℕ) (no : UnitNo) → view_at panorama v ≡ view.Correct no → no.0 < count_of dag
  pub creator_is : (v : ℕ) (no : UnitNo) → view_at panorama v ≡ view.Correct no → creator_of (unit_at dag no.0) ≡ v

-- ---- a graph that grows

-- the later graph has more units behind those of the earlier one
pub record GrowsTo (earlier later : UnitGraph) : Type 0 where
  pub validators_are : later.validators ≡ earlier.validators
  pub more : List SettledUnit
  pub units_are : later.units ≡ earlier.units ++ more
