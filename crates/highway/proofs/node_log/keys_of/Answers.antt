use Rattle.std.proofs.Common.{arith}
use Rattle.hw_types.proofs.LimitLaws.{within_limits}
use Rattle.highway.proofs.node_log.keys_of.Goals as goal

-- src/node_log.rt:106:55
pub overflow_cast-len : goal.overflow_cast-len
overflow_cast-len c = let few = (within_limits c.args.config.now c.requires).few in let count = c.len.ensures in omega arith
