use Rattle.hw_core.proofs.StartLaws.{config_fits}
use Rattle.hw_node_cases.proofs.node.actions.acted.Goals as goal

pub instance_of-requires : goal.instance_of-requires
instance_of-requires c = config_fits c.args.config.now c.requires.lawful
