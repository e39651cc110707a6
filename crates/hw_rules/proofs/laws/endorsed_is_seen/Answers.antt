use Rattle.hw_rules.proofs.SeenLaws.{endorsed_is_seen}
use Rattle.hw_rules.proofs.laws.endorsed_is_seen.Goals as goal

pub returns : goal.returns
returns c = endorsed_is_seen
