-- How a unit comes into a graph, and what holds of each graph that was made so.
use Rattle.std.specs.Prelude.{◌≡◌, ◌≢◌, ℕ, ◌+◌, ◌-◌, ◌<◌, ◌≤◌, ◌^◌, true, false, List, [], ◌∷◌, ◌++◌, length, Option, Some, None, is_some, unwrap_or, if◌then◌else◌}
use Rattle.std.specs.List.{list_any}
use Rattle.hw_types.specs.declared.unit.Digest.{Digest}
use Rattle.hw_types.specs.declared.unit.SignedUnit.{SignedUnit}
use Rattle.hw_types.specs.declared.unit.Obs.{Obs}
use Rattle.hw_types.specs.declared.unit.Obs.TheVariants.{Correct}
use Rattle.hw_types.specs.Graph.{Node, is_faulty_mark, is_absent, is_correct, cites, latest, previous, is_consistent}
use Rattle.hw_types.specs.Below.{Among}
use Rattle.hw_types.specs.Votes.{is_block}
use Rattle.hw_types.specs.Rules.{own_slot}
use Rattle.hw_dag.specs.declared.numbers.UnitNo.{UnitNo}
use Rattle.hw_dag.specs.declared.numbers.View.{View}
use Rattle.hw_dag.specs.declared.numbers.View.TheVariants as view
use Rattle.hw_dag.specs.Dag.{SettledUnit, UnitGraph, unit_at, count_of, creator_of, node_of, node_at, graph, view_at, observations, IsPanorama}

-- ---- a unit on its way in

-- a unit with its name and a panorama in numbers, which means something once it is resolved
pub record PreparedUnit : Type 0 where
  pub digest : Digest
  pub signed : SignedUnit
  pub panorama : List View

-- a prepared unit under its name
abbrev pub node_prepared : PreparedUnit → Node
node_prepared p = record { digest = p.digest; unit = p.signed.unit }

-- the unit is by one of so many validators, and has an observation of each
pub record IsFor (validators : ℕ) (unit : SignedUnit) : Type 0 where
  pub creator_is : unit.unit.creator < validators
  pub length_is : length unit.unit.panorama ≡ validators

-- the graph has each unit that a correct observation names
abbrev pub AllKnown : List Node → List Obs → Type 0
AllKnown units panorama = (d : Digest) → Among (Correct d) panorama → (x : Node) × Among x units × (x.digest ≡ d)

-- the panorama in numbers stands for what the unit observes
pub record IsResolved (dag : UnitGraph) (p : PreparedUnit) : Type 0 where
  pub known : (v : ℕ) (no : UnitNo) → view_at p.panorama v ≡ view.Correct no → no.0 < count_of dag
  pub observes : observations dag p.panorama ≡ p.signed.unit.panorama

-- no unit of the graph has this name
abbrev pub IsNew : UnitGraph → Digest → Type 0
IsNew dag d = (n : ℕ) → n < count_of dag → (unit_at dag n).digest ≢ d

-- what the graph asks of a unit over the units that it has
pub record KeepsRules (units : List Node) (u : Node) : Type 0 where
  -- it doesn't mark its own creator
  pub unmarked : is_faulty_mark (own_slot u.unit) ≡ false
  -- where it observes none of its creator's units, its number is 0
  pub first : is_absent (own_slot u.unit) ≡ true → u.unit.seq ≡ 0
  -- a unit without a value observes some unit
  pub sighted : is_block u ≡ false → list_any is_correct u.unit.panorama ≡ true
  -- each observed unit is by that slot's validator
  pub creators : (v : ℕ) (x : Node) → latest units u.unit.panorama v ≡ Some x → x.unit.creator ≡ v
  -- its number is one more than that of its creator's observed unit
  pub next : (p : Node) → previous units u ≡ Some p → u.unit.seq ≡ p.unit.seq + 1
  -- its panorama is consistent
  pub consistent : is_consistent units u.unit.panorama ≡ true
  -- no observed unit has a greater time
  pub timely : (w : Node) → Among w units → cites u.unit.panorama w ≡ true → w.unit.time ≤ u.unit.time

-- there is a fork choice exactly where the panorama observes some unit, and it is a block
pub record IsFork (dag : UnitGraph) (panorama : List Obs) (fork : Option UnitNo) : Type 0 where
  pub some : is_some fork ≡ list_any is_correct panorama
  pub known : (no : UnitNo) → fork ≡ Some no → no.0 < count_of dag
  pub block : (no : UnitNo) → fork ≡ Some no → is_block (node_at dag no.0) ≡ true

-- a unit that is prepared, resolved and new, keeps the rules and has its fork choice
pub record IsReady (dag : UnitGraph) (p : PreparedUnit) (fork : Option UnitNo) : Type 0 where
  pub room : 1 ≤ dag.spare
  pub is_for : IsFor dag.validators p.signed
  pub resolved : IsResolved dag p
  pub rules : KeepsRules (graph dag) (node_prepared p)
  pub fresh : IsNew dag p.digest
  pub fork_is : IsFork dag p.signed.unit.panorama fork

-- ---- the settled unit

-- the height of a block that has this parent
abbrev pub height_above : UnitGraph → Option UnitNo → ℕ
height_above dag None = 0
height_above dag (Some parent) = unwrap_or (unit_at dag parent.0).height 0 + 1

-- The unit of that number, with its fork choice and one more than the height of that. A block votes for itself, and the fork choice
-- is its parent. The fork choice is another unit's vote.
abbrev pub settled_as : PreparedUnit → UnitNo → Option UnitNo → ℕ → SettledUnit
settled_as p number fork height = record {
  digest = p.digest;
  signed = p.signed;
  panorama = p.panorama;
  vote = if is_block (node_prepared p) then number else unwrap_or fork number;
  parent = if is_block (node_prepared p) then fork else None;
  height = if is_block (node_prepared p) then Some height else None;
}

-- the unit that a prepared one becomes
abbrev pub settled_from : UnitGraph → PreparedUnit → Option UnitNo → SettledUnit
settled_from dag p fork = settled_as p (record { 0 = count_of dag }) fork (height_above dag fork)

-- the graph with one unit more, which goes last and takes one place of the room
abbrev pub with_unit : UnitGraph → SettledUnit → UnitGraph
with_unit dag u = record { validators = dag.validators; spare = dag.spare - 1; units = dag.units ++ u ∷ [] }

-- ---- what holds of each graph

-- the fork choice that the unit was given: its parent where it is a block, else its vote
abbrev pub fork_given : SettledUnit → Option UnitNo
fork_given u = if is_block (node_of u) then u.parent else Some u.vote

-- the unit of number n, over the units before it
pub record IsSettled (dag : UnitGraph) (n : ℕ) (u : SettledUnit) : Type 0 where
  pub creator_is : creator_of u < dag.validators
  pub panorama_is : IsPanorama dag u.panorama
  pub observes : observations dag u.panorama ≡ u.signed.unit.panorama
  pub earlier : (v : ℕ) (no : UnitNo) → view_at u.panorama v ≡ view.Correct no → no.0 < n
  pub rules : KeepsRules (graph dag) (node_of u)
  pub fork : IsFork dag u.signed.unit.panorama (fork_given u)
  pub fork_earlier : (no : UnitNo) → fork_given u ≡ Some no → no.0 < n
  pub own_vote : is_block (node_of u) ≡ true → u.vote.0 ≡ n
  pub no_parent : is_block (node_of u) ≡ false → u.parent ≡ None
  pub height_is : u.height ≡ (if is_block (node_of u) then Some (height_above dag u.parent) else None)

-- there are fewer numbers than slots have codes, names tell the units apart, and each unit is settled over those before it
pub record IsGraph (dag : UnitGraph) : Type 0 where
  pub bounded : count_of dag + dag.spare + 1 < 2 ^ 32
  pub distinct : (m n : ℕ) → m < count_of dag → n < count_of dag → (unit_at dag m).digest ≡ (unit_at dag n).digest → m ≡ n
  pub settled : (n : ℕ) → n < count_of dag → IsSettled dag n (unit_at dag n)
