use Rattle.hw_rules.proofs.StateLaws.{endorsed_is_kept}
use Rattle.hw_rules.proofs.laws.endorsed_is_kept.Goals as goal

pub returns : goal.returns
returns c = endorsed_is_kept
