-- Laws of units that break no rule.
use Rattle.std.specs.Prelude.{◌≡◌, None}
use Rattle.hw_types.specs.declared.config.Config.{Config}
use Rattle.hw_types.specs.Graph.{Node}
use Rattle.hw_types.specs.Rules.{state_rule}
use Rattle.hw_dag.specs.Dag.{UnitGraph, graph}
use Rattle.hw_dag.specs.Admission.{PreparedUnit, IsGraph, IsResolved, node_prepared}
use Rattle.hw_dag.specs.Lists.{AllNameBelow}
use Rattle.hw_naivety.specs.Naivety.{KeepsEndorsed, HasNoNaiveFork}

-- A unit that breaks no rule over the units below it keeps those of endorsed lists and of naive forks, as it is asked of a unit on its way in.
abbrev pub EndorsedIsKept : Type 0
EndorsedIsKept = (config : Config) (dag : UnitGraph) (u : Node) → state_rule config (graph dag) u ≡ None → KeepsEndorsed (graph dag) u × HasNoNaiveFork (graph dag) u

-- The endorsed list of a unit that breaks no rule has names of units below it alone, once it is resolved.
abbrev pub EndorsedIsSeen : Type 0
EndorsedIsSeen = (config : Config) (dag : UnitGraph) → IsGraph dag → (p : PreparedUnit) → IsResolved dag p → state_rule config (graph dag) (node_prepared p) ≡ None → AllNameBelow dag p.panorama p.signed.unit.endorsed
