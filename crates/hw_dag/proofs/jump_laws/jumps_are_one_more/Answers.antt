use Rattle.hw_dag.proofs.JumpLaws.{jump_count-arrived, jump_count-step}
use Rattle.hw_dag.proofs.jump_laws.jumps_are_one_more.Goals as goal

pub returns : goal.returns
returns c = λ s r fits. ((jump_count-arrived s r), (λ less. jump_count-step s r less fits))
