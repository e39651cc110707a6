use Rattle.hw_dag.proofs.JumpLaws.{pointers_lead}
use Rattle.hw_dag.proofs.jump_laws.pointers_lead_to_pointers.Goals as goal

pub returns : goal.returns
returns c = pointers_lead
