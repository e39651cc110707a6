use Rattle.hw_samples.proofs.JournalSamples.{third_of_a_round_is_dropped}
use Rattle.hw_samples.proofs.journals.third_of_a_round_is_dropped.Goals as goal

pub returns : goal.returns
returns c = third_of_a_round_is_dropped
