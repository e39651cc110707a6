use Rattle.std.proofs.Common.{◌≡◌, true, None, sym, subst, ◌∙◌}
use Rattle.hw_types.specs.declared.config.Config.{Config}
use Rattle.hw_types.specs.Limits.{config_fault}
use Rattle.hw_types.specs.Spelling.{ConfigFits}
use Rattle.hw_codec.specs.Ranges.{ConfigInRange}
use Rattle.hw_replay.specs.Replay.{same_config}
use Rattle.hw_eras.proofs.LogLaws.{config_fits, made_again, one_config}
use Rattle.hw_eras.proofs.filled.replay_like.Goals as goal

pub replay_log-requires : goal.replay_log-requires
replay_log-requires g c = subst ConfigFits (sym c.config-config.ensures.config) (config_fits _ c.config-config.ensures.lawful)

pub returns-in-Ok-clause-like : goal.returns-in-Ok-clause-like
returns-in-Ok-clause-like g c =
    one_config c.args.core.now.config c.in-Ok.replay.core.config
    (subst ConfigInRange (c.config-config.ensures.config ∙ c.state.ensures.config) c.config_is_in_range.ensures)
    (subst ConfigInRange (c.config.ensures.config ∙ c.state-in-Ok.ensures.config) c.config_is_in_range-in-Ok.ensures)
    (subst (λ (k : Config). config_fault k ≡ None) c.state.ensures.config c.config-config.ensures.lawful)
    (subst (λ (k : Config). config_fault k ≡ None) c.state-in-Ok.ensures.config c.config.ensures.lawful)
    (subst (λ (k : Config). same_config k c.in-Ok.replay.core.config ≡ true) (c.config-config.ensures.config ∙ c.state.ensures.config) c.in-Ok.ensures.wanted)

pub returns-in-Ok-clause-made : goal.returns-in-Ok-clause-made
returns-in-Ok-clause-made g c = made_again c.in-Ok.replay.core c.in-Ok.ensures.reached
