use Rattle.std.proofs.Common.{◌≡◌, ℕ, ◌<◌, true}
use Rattle.hw_types.specs.Graph.{slot, is_faulty_mark}
use Rattle.hw_dag.specs.Dag.{graph}
use Rattle.hw_admit.specs.State.{is_faulty_in}
use Rattle.hw_core_cases.proofs.graph.settling.are_met.Given as goal

-- whom the first slots mark is faulty
abbrev pub invariant-loop-validator : goal.invariant-loop-validator
invariant-loop-validator l = (v : ℕ) → v < l.validator → is_faulty_mark (slot l.observed v) ≡ true → is_faulty_in l.state.marked (graph l.state.dag) v ≡ true
