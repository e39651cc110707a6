use Rattle.hw_dag.proofs.LaneLaws.{seen_is_on_lane}
use Rattle.hw_dag.proofs.laws.seen_is_on_lane.Goals as goal

pub returns : goal.returns
returns c = seen_is_on_lane
