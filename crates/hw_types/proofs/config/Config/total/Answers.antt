use Rattle.std.proofs.Common.{ap, arith, sum}
use Rattle.hw_types.proofs.LimitLaws.{within_limits}
use Rattle.hw_types.proofs.config.Config.total.Goals as goal

pub total_of-requires : goal.total_of-requires
total_of-requires c = let limits = within_limits c.args.self.now c.requires in omega (arith, limits.total, ap sum c.as_slice.ensures)
