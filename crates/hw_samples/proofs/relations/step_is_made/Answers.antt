use Rattle.hw_samples.proofs.StepMembers.{step_is_made}
use Rattle.hw_samples.proofs.relations.step_is_made.Goals as goal

pub returns : goal.returns
returns c = step_is_made
