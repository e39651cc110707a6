use Rattle.hw_commands.proofs.AgainstLaws.{parted_said, other_said}
use Rattle.hw_commands.proofs.audit.not_beside.Goals as goal

pub returns-in_default-clause-said : goal.returns-in_default-clause-said
returns-in_default-clause-said c = parted_said c.args.file.now c.args.log.now c.args.fault c.stopped.result c.in_default.not-OtherConfig c.stopped.ensures.said

pub returns-in_ok-other_config-in-OtherConfig-clause-said : goal.returns-in_ok-other_config-in-OtherConfig-clause-said
returns-in_ok-other_config-in-OtherConfig-clause-said c = other_said c.args.file.now c.args.log.now c.args.fault c.in_ok-other_config-in-OtherConfig.field-0 c.in-OtherConfig.is c.in_ok-other_config-in-OtherConfig.ensures
