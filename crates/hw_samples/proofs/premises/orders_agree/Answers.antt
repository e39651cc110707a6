use Rattle.hw_samples.proofs.GraphCases.{orders_agree}
use Rattle.hw_samples.proofs.premises.orders_agree.Goals as goal

pub returns : goal.returns
returns c = orders_agree
