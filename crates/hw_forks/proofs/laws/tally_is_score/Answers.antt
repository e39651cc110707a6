use Rattle.hw_forks.proofs.TallyLaws.{tally_is_score}
use Rattle.hw_forks.proofs.laws.tally_is_score.Goals as goal

pub returns : goal.returns
returns c = tally_is_score
