use Rattle.hw_log.proofs.GrammarLaws.{cut_spelled}
use Rattle.hw_log.proofs.laws.whole_entries_stand_before_a_cut.Goals as goal

pub returns : goal.returns
returns c = cut_spelled
