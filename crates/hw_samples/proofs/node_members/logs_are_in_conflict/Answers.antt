use Rattle.hw_samples.proofs.FileMembers.{logs_are_in_conflict}
use Rattle.hw_samples.proofs.node_members.logs_are_in_conflict.Goals as goal

pub returns : goal.returns
returns c = logs_are_in_conflict
