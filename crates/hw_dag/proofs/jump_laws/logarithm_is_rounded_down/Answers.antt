use Rattle.std.proofs.Common.{add-one}
use Rattle.hw_dag.specs.Jumps.{floor_log2}
use Rattle.hw_dag.proofs.LogLaws.{double, log2_rounded}
use Rattle.hw_dag.proofs.jump_laws.logarithm_is_rounded_down.Goals as goal

pub returns : goal.returns
returns c = λ n some fits. let rounded = log2_rounded n some fits in (rounded.0, rw (add-one, double (floor_log2 n)) rounded.1)
