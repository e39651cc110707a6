use Rattle.highway.proofs.SettingsLaws.{config_fits}
use Rattle.highway.proofs.node_log.is_same.Goals as goal

-- src/node_log.rt:141:16
pub encode_config-requires : goal.encode_config-requires
encode_config-requires c = config_fits c.args.left.now c.requires.left
