use Rattle.hw_samples.proofs.JournalSamples.{two_levels_where_one_is_silent}
use Rattle.hw_samples.proofs.journals.two_levels_where_one_is_silent.Goals as goal

pub returns : goal.returns
returns c = two_levels_where_one_is_silent
