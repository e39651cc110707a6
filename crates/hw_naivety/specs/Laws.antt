-- Laws of what was noted, and of what was found of a unit on its way in.
use Rattle.std.specs.Prelude.{Option}
use Rattle.hw_dag.specs.declared.numbers.UnitNo.{UnitNo}
use Rattle.hw_dag.specs.Dag.{UnitGraph, count_of, node_at, graph, GrowsTo}
use Rattle.hw_dag.specs.Admission.{PreparedUnit, node_prepared, IsGraph, IsReady, settled_from, with_unit}
use Rattle.hw_naivety.specs.Naivety.{NaiveTips, KeepsEndorsed, HasNoNaiveFork, IsNoted}

-- What was noted of a graph stays so while the graph grows.
abbrev pub NotedStays : Type 0
NotedStays = (dag later : UnitGraph) → IsGraph dag → IsGraph later → GrowsTo dag later → (tips : NaiveTips) → IsNoted tips dag → IsNoted tips later

-- What holds of a unit on its way in, of its endorsed list and of naive forks, holds of it once it is in the graph.
abbrev pub JudgedStays : Type 0
JudgedStays = (dag : UnitGraph) → IsGraph dag → (p : PreparedUnit) (fork : Option UnitNo) → IsReady dag p fork
    → KeepsEndorsed (graph dag) (node_prepared p) → HasNoNaiveFork (graph dag) (node_prepared p)
    → KeepsEndorsed (graph (with_unit dag (settled_from dag p fork))) (node_at (with_unit dag (settled_from dag p fork)) (count_of dag))
    × HasNoNaiveFork (graph (with_unit dag (settled_from dag p fork))) (node_at (with_unit dag (settled_from dag p fork)) (count_of dag))
