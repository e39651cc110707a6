use Rattle.hw_dag.proofs.JumpLaws.{jumps_few}
use Rattle.hw_dag.proofs.jump_laws.jumps_are_few.Goals as goal

pub returns : goal.returns
returns c = jumps_few
