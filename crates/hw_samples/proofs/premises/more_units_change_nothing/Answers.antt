use Rattle.hw_samples.proofs.GraphCases.{more_units_change_nothing}
use Rattle.hw_samples.proofs.premises.more_units_change_nothing.Goals as goal

pub returns : goal.returns
returns c = more_units_change_nothing
