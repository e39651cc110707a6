use Rattle.hw_samples.proofs.RandomValues.{random_values}
use Rattle.hw_samples.proofs.values.random_values.Goals as goal

pub returns : goal.returns
returns c = random_values
