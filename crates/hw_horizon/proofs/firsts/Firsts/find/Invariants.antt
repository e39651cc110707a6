use Rattle.std.proofs.Common.{◌≡◌, ℕ, ◌<◌, length, get_or}
use Rattle.hw_dag.specs.Dag.{view_at}
use Rattle.hw_horizon.specs.Firsts.{IsFirst}
use Rattle.hw_horizon.proofs.firsts.Firsts.find.Given as goal

abbrev pub invariant-loop-v : goal.invariant-loop-v
invariant-loop-v l = record {
  long : length l.self ≡ l.dag.validators;
  firsts : (v : ℕ) → v < l.v → IsFirst l.dag (view_at l.panorama v) l.lower l.present v (get_or l.self v 0);
}
