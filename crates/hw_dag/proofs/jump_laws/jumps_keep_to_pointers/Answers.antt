use Rattle.hw_dag.proofs.JumpLaws.{jump_kept, landing_falls, landing_within}
use Rattle.hw_dag.proofs.jump_laws.jumps_keep_to_pointers.Goals as goal

pub returns : goal.returns
returns c = λ s r less fits. (jump_kept s r less, landing_falls s r less, landing_within s r less fits)
