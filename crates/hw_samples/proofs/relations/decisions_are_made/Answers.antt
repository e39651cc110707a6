use Rattle.hw_samples.proofs.SummitMembers.{decisions_are_made}
use Rattle.hw_samples.proofs.relations.decisions_are_made.Goals as goal

pub returns : goal.returns
returns c = decisions_are_made
