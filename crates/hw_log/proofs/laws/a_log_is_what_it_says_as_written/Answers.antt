use Rattle.hw_log.proofs.GrammarLaws.{whole_spelled}
use Rattle.hw_log.proofs.laws.a_log_is_what_it_says_as_written.Goals as goal

pub returns : goal.returns
returns c = whole_spelled
