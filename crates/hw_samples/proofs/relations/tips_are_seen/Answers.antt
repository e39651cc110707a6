use Rattle.hw_samples.proofs.TipMembers.{tips_are_seen}
use Rattle.hw_samples.proofs.relations.tips_are_seen.Goals as goal

pub returns : goal.returns
returns c = tips_are_seen
