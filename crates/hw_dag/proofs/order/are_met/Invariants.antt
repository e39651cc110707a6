-- The slots so far are met.
use Rattle.std.proofs.Common.{◌≡◌, ℕ, ◌<◌, true}
use Rattle.hw_dag.specs.Dag.{view_at}
use Rattle.hw_dag.specs.Views.{is_met}
use Rattle.hw_dag.proofs.order.are_met.Given as goal

abbrev pub invariant-loop-validator : goal.invariant-loop-validator
invariant-loop-validator l = (v : ℕ) → v < l.validator → is_met l.dag (view_at l.left v) (view_at l.right v) ≡ true
