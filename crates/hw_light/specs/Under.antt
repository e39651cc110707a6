-- The units under a summit, by number.
use Rattle.std.specs.Prelude.{◌≡◌, ℕ, ◌<◌, true, Bool, List, map, filter, IsTrue}
use Rattle.std.specs.List.{range_with_len}
use Rattle.hw_types.specs.declared.answers.Decision.{Decision}
use Rattle.hw_types.specs.Graph.{Node}
use Rattle.hw_types.specs.Below.{Among}
use Rattle.hw_types.specs.Summit.{Committees}
use Rattle.hw_types.specs.Real.{CoreState, settled_in, panorama_in}
use Rattle.hw_dag.specs.declared.numbers.UnitNo.{UnitNo}
use Rattle.hw_dag.specs.declared.numbers.View.{View}
use Rattle.hw_dag.specs.declared.numbers.View.TheVariants as view
use Rattle.hw_dag.specs.Dag.{UnitGraph, count_of, node_of, node_at, view_at}
use Rattle.hw_dag.specs.Lanes.{is_seen}
use Rattle.hw_dag.specs.Walks.{is_marked}
use Rattle.hw_horizon.specs.Search.{Search, committees_of}
use Rattle.hw_light.specs.Extract.{is_under}
use Rattle.hw_light.specs.Certify.{IsGreatestNow}

-- the unit of that number is the latest one of a member of the first committee that the search found
pub record IsMembersLatest (search : Search) (panorama : List View) (n : ℕ) : Type 0 where
  pub validator : ℕ
  pub member : IsTrue ((committees_of search).member 0 validator)
  pub latest : view_at panorama validator ≡ view.Correct (record { 0 = n })

-- the unit of that number is one of the marked units, or below one
pub record IsUnderMarked (dag : UnitGraph) (marked : List Bool) (n : ℕ) : Type 0 where
  pub above : ℕ
  pub known : above < count_of dag
  pub marked_is : IsTrue (is_marked marked above)
  pub seen : IsTrue (is_seen dag n above)

-- the number of a unit
abbrev pub number_in : UnitNo → ℕ
number_in number = number.0

-- these are the numbers of the marked units and of all below them, rising
pub record AreUnderMarked (dag : UnitGraph) (marked : List Bool) (numbers : List UnitNo) : Type 0 where
  pub all_marked : List Bool
  pub all : (n : ℕ) → n < count_of dag → IsUnderMarked dag marked n → is_marked all_marked n ≡ true
  pub only : (n : ℕ) → is_marked all_marked n ≡ true → IsUnderMarked dag marked n
  pub numbers_are : map number_in numbers ≡ filter (is_marked all_marked) (range_with_len 0 (count_of dag))

-- the units of these numbers, in their order
abbrev pub nodes_at : UnitGraph → List UnitNo → List Node
nodes_at dag numbers = map (λ (no : UnitNo). node_at dag no.0) numbers

-- each number is that of a unit
abbrev pub AreKnown : UnitGraph → List UnitNo → Type 0
AreKnown dag numbers = (no : UnitNo) → Among no numbers → no.0 < count_of dag

-- The units of these numbers are those of the graph at or below the latest units of a first committee. It is that of
-- the greatest summit that the decided block of that place has now.
pub record AreUnder (core : CoreState) (index : ℕ) (decision : Decision) (dag : UnitGraph) (numbers : List UnitNo) : Type 0 where
  pub committees : Committees
  pub greatest : IsGreatestNow core index decision committees
  pub known : AreKnown dag numbers
  pub units_are : nodes_at dag numbers ≡ filter (is_under (settled_in core) (panorama_in core) committees) (map node_of dag.units)
