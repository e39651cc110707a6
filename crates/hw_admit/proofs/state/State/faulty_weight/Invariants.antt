use Rattle.std.proofs.Common.{◌≡◌, cond, length, get_or}
use Rattle.std.specs.Prelude.{sum_by}
use Rattle.std.specs.List.{range_with_len}
use Rattle.hw_dag.specs.Dag.{graph}
use Rattle.hw_admit.specs.State.{is_faulty_in}
use Rattle.hw_admit.proofs.state.State.faulty_weight.Given as goal

abbrev pub invariant-loop-slot : goal.invariant-loop-slot
invariant-loop-slot l = l.total ≡ sum_by (λ v. cond (is_faulty_in l.self.marked (graph l.self.dag) v) (get_or l.self.config.weights v 0) 0) (range_with_len 0 (length l.yielded))
