use Rattle.std.proofs.Common.{◌-◌, sym, arith}
use Rattle.hw_dag.proofs.LogLaws.{log2_is}
use Rattle.hw_dag.proofs.JumpLaws.{jump_falls, jump_bound, step_by}
use Rattle.hw_dag.proofs.jumps.jump.Goals as goal

pub returns-clause-exact : goal.returns-clause-exact
returns-clause-exact c =
    let logarithm = log2_is (c.args.s - c.args.r) c.ilog2.result (omega arith) c.ilog2.ensures.power_le c.ilog2.ensures.next_power_gt in
    omega (arith, c.min.ensures, logarithm)

pub returns-clause-falls : goal.returns-clause-falls
returns-clause-falls c =
    let falls = jump_falls c.min.result c.args.s c.args.r (sym (returns-clause-exact c)) c.requires c.ranges.s.fits in
    omega (arith, falls.0, falls.1)

pub returns-clause-within : goal.returns-clause-within
returns-clause-within c = (jump_falls c.min.result c.args.s c.args.r (sym (returns-clause-exact c)) c.requires c.ranges.s.fits).1

pub returns-clause-bound : goal.returns-clause-bound
returns-clause-bound c =
    omega (arith, returns-clause-exact c, jump_bound c.args.s c.args.r c.requires c.ranges.s.fits)

pub returns-clause-counted : goal.returns-clause-counted
returns-clause-counted c = step_by c.min.result c.args.s c.args.r (sym (returns-clause-exact c)) c.requires c.ranges.s.fits
