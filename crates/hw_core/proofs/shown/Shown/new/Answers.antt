use Rattle.std.proofs.Common.{arith}
use Rattle.hw_types.proofs.LimitLaws.{within_limits}
use Rattle.hw_core.proofs.shown.Shown.new.Goals as goal

pub overflow_cast-validators : goal.overflow_cast-validators
overflow_cast-validators c =
    let few = (within_limits c.args.config.now c.requires).few in
    let long = c.len-validators.ensures in
    omega arith
