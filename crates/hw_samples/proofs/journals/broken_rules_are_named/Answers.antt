use Rattle.hw_samples.proofs.JournalSamples.{broken_rules_are_named}
use Rattle.hw_samples.proofs.journals.broken_rules_are_named.Goals as goal

pub returns : goal.returns
returns c = broken_rules_are_named
