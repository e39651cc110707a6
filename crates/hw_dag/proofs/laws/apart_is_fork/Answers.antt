use Rattle.hw_dag.proofs.LaneLaws.{apart_is_fork}
use Rattle.hw_dag.proofs.laws.apart_is_fork.Goals as goal

pub returns : goal.returns
returns c = apart_is_fork
