use Rattle.hw_types.proofs.LimitLaws.{within_limits}
use Rattle.hw_rounds.proofs.leaders.LeaderTable.new.Goals as goal

pub running_weights-requires : goal.running_weights-requires
running_weights-requires c = rw c.as_slice.ensures (within_limits c.args.config.now c.requires).total
