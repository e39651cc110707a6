use Rattle.hw_client.proofs.FeedingLaws.{fed, in_hand}
use Rattle.hw_client.proofs.feeding.feeding_order_does_not_count.Goals as goal

pub returns-clause-fed : goal.returns-clause-fed
returns-clause-fed c = fed

pub returns-clause-hand : goal.returns-clause-hand
returns-clause-hand c = in_hand
