use Rattle.std.proofs.Common.{◌≡◌, ℕ, ◌<◌, length}
use Rattle.hw_types.specs.Graph.{slot}
use Rattle.hw_dag.specs.Dag.{view_at}
use Rattle.hw_dag.specs.Tables.{StandsFor}
use Rattle.hw_dag.proofs.graph.Dag.resolve_views.Given as goal

-- the slots so far stand for the observations
abbrev pub invariant-loop-slot : goal.invariant-loop-slot
invariant-loop-slot l = (length l.panorama ≡ length l.observed) × ((v : ℕ) → v < l.slot → StandsFor l.self (slot l.observed v) (view_at l.panorama v))
