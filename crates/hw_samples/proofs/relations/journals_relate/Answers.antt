use Rattle.hw_samples.proofs.JournalMembers.{journals_relate}
use Rattle.hw_samples.proofs.relations.journals_relate.Goals as goal

pub returns : goal.returns
returns c = journals_relate
