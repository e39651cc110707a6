use Rattle.std.proofs.Common.{sym, subst, arith}
use Rattle.hw_types.specs.Spelling.{ConfigFits}
use Rattle.hw_types.proofs.LimitLaws.{within_limits}
use Rattle.hw_core.proofs.StartLaws.{config_fits}
use Rattle.hw_light.proofs.certifying.counted.Goals as goal

pub returns-clause-fits : goal.returns-clause-fits
returns-clause-fits c =
    let most = (within_limits c.args.config.now c.requires.lawful).records.1 in
    let long = c.len-count.ensures in
    let few = c.if-count-from.false in
    record {
      config = subst ConfigFits (sym c.in_ok-config.ensures) (config_fits c.args.config.now c.requires.lawful);
      vertices = c.requires.fits;
      count = omega arith;
    }
