use Rattle.hw_core.proofs.StartLaws.{config_fits}
use Rattle.hw_node_cases.proofs.eras.configs.put_config.Goals as goal

pub encode_config-requires : goal.encode_config-requires
encode_config-requires c = config_fits c.args.config.now c.requires
