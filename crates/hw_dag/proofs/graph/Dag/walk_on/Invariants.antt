use Rattle.std.proofs.Common.{◌≤◌}
use Rattle.hw_dag.specs.Admission.{IsGraph}
use Rattle.hw_dag.proofs.MarkLaws.{IsWalked}
use Rattle.hw_dag.proofs.graph.Dag.walk_on.Given as goal

abbrev pub invariant-loop-next : goal.invariant-loop-next
invariant-loop-next l = (l.next ≤ l.fn.top) × ((g : IsGraph l.self) → IsWalked l.self g l.initial.marked l.fn.top l.fn.low.0 l.next l.marked)

abbrev pub decreases-loop-next : goal.decreases-loop-next
decreases-loop-next l = l.next
