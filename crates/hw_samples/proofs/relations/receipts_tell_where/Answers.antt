use Rattle.hw_samples.proofs.StepMembers.{receipts_tell_where}
use Rattle.hw_samples.proofs.relations.receipts_tell_where.Goals as goal

pub returns : goal.returns
returns c = receipts_tell_where
