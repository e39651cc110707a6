use Rattle.std.proofs.Common.{◌≡◌, ℕ, ◌<◌, None, length, get_or}
use Rattle.hw_dag.specs.Dag.{view_at}
use Rattle.hw_horizon.specs.Bounds.{tip_in}
use Rattle.hw_horizon.proofs.bounds.put_tips.Given as goal

abbrev pub invariant-loop-slot : goal.invariant-loop-slot
invariant-loop-slot l = record {
  long : length l.tips ≡ length l.fn.tips;
  done : (v : ℕ) → v < l.slot → get_or l.tips v None ≡ tip_in (view_at l.panorama v);
}
