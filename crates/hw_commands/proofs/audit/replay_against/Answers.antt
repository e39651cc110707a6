use Rattle.std.proofs.Common.{sym, subst}
use Rattle.hw_types.specs.Spelling.{ConfigFits}
use Rattle.hw_commands.proofs.ConfigLaws.{config_fits}
use Rattle.hw_commands.proofs.audit.replay_against.Goals as goal

pub replay_log-requires : goal.replay_log-requires
replay_log-requires g c = subst ConfigFits (sym c.config.ensures.config) (config_fits _ c.config.ensures.lawful)
