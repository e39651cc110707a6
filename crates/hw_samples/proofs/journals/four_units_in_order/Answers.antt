use Rattle.hw_samples.proofs.JournalSamples.{four_units_in_order}
use Rattle.hw_samples.proofs.journals.four_units_in_order.Goals as goal

pub returns : goal.returns
returns c = four_units_in_order
