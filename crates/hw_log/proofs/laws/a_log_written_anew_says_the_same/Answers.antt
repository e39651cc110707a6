use Rattle.hw_log.proofs.GrammarLaws.{respelled}
use Rattle.hw_log.proofs.laws.a_log_written_anew_says_the_same.Goals as goal

pub returns : goal.returns
returns c = respelled
