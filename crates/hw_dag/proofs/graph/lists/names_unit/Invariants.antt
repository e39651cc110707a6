use Rattle.std.proofs.Common.{◌≡◌, ℕ, ◌<◌}
use Rattle.std.specs.Prelude.{◌≢◌}
use Rattle.hw_dag.specs.declared.numbers.UnitNo.{UnitNo}
use Rattle.hw_dag.specs.declared.numbers.View.TheVariants as view
use Rattle.hw_dag.specs.Dag.{view_at}
use Rattle.hw_dag.proofs.graph.lists.names_unit.Given as goal

-- no slot so far names the unit
abbrev pub invariant-loop-slot : goal.invariant-loop-slot
invariant-loop-slot l = (v : ℕ) (number : UnitNo) → v < l.slot-index → view_at l.slots v ≡ view.Correct number → number.0 ≢ l.no.0
