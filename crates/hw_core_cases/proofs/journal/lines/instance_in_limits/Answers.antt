use Rattle.hw_core.proofs.StartLaws.{config_fits}
use Rattle.hw_core_cases.proofs.journal.lines.instance_in_limits.Goals as goal

pub instance_of-requires : goal.instance_of-requires
instance_of-requires c = config_fits c.args.config.now c.in-Ok.ensures
