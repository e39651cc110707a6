use Rattle.hw_core.proofs.PromiseLaws.{order_does_not_count}
use Rattle.hw_core.proofs.laws.order_of_deliveries_does_not_count.Goals as goal

pub returns : goal.returns
returns c = order_does_not_count
