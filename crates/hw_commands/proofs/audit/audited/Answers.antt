use Rattle.std.proofs.Common.{◌≡◌, codes, None, Err, inl, inr, ap, subst, ◌∙◌}
use Rattle.hw_types.specs.declared.config.Config.{Config}
use Rattle.hw_types.specs.Limits.{config_fault}
use Rattle.hw_codec.specs.Ranges.{ConfigInRange}
use Rattle.hw_audit.specs.declared.nodes.AuditError.{AuditError}
use Rattle.hw_audit.proofs.TwinLaws.{ok_so}
use Rattle.hw_commands.specs.declared.ended.Ended.{Ended}
use Rattle.hw_commands.specs.Audited.{verdict_ended}
use Rattle.hw_commands.proofs.FaultLaws.{input_status}
use Rattle.hw_commands.proofs.ConfigLaws.{config_fits, one_config}
use Rattle.hw_commands.proofs.audit.audited.Goals as goal

pub returns-in-Ok-clause-told : goal.returns-in-Ok-clause-told
returns-in-Ok-clause-told c =
    ok_so c.verdict_ended.result c.verdict_ended.ensures (λ e is same. record {
      one_config = one_config c.args.left.now.config c.args.right.now.config (subst ConfigInRange (c.config.ensures.config ∙ c.state.ensures.config) c.config_is_in_range.ensures)
          (subst ConfigInRange (c.config-2.ensures.config ∙ c.state-2.ensures.config) c.config_is_in_range-2.ensures)
          (config_fits c.args.left.now.config (subst (λ (g : Config). config_fault g ≡ None) c.state.ensures.config c.config.ensures.lawful))
          (config_fits c.args.right.now.config (subst (λ (g : Config). config_fault g ≡ None) c.state-2.ensures.config c.config-2.ensures.lawful)) same;
      told = c.in-Ok.verdict;
      is_verdict = c.in-Ok.ensures.verdict;
      shows_first = c.in-Ok.ensures.first;
      weighty = c.in-Ok.ensures.accountable;
      ended = is ∙ ap (λ (g : Config). verdict_ended g.ftt c.in-Ok.verdict) (c.config-in-Ok.ensures.config ∙ c.state-in-Ok.ensures.config);
    })

pub returns-in-Err-Instances-clause-told : goal.returns-in-Err-Instances-clause-told
returns-in-Err-Instances-clause-told c =
    ok_so c.other_config.result c.other_config.ensures (λ e is same.
    absurd (c.audit.ensures.instances.1 (c.in-Err-Instances.is ∙ ap (λ (x : AuditError). Err x) c.in-Err-Instances.field-0-is)
    (one_config c.args.left.now.config c.args.right.now.config (subst ConfigInRange (c.config.ensures.config ∙ c.state.ensures.config) c.config_is_in_range.ensures)
    (subst ConfigInRange (c.config-2.ensures.config ∙ c.state-2.ensures.config) c.config_is_in_range-2.ensures)
    (config_fits c.args.left.now.config (subst (λ (g : Config). config_fault g ≡ None) c.state.ensures.config c.config.ensures.lawful))
    (config_fits c.args.right.now.config (subst (λ (g : Config). config_fault g ≡ None) c.state-2.ensures.config c.config-2.ensures.lawful)) same)))

pub returns-in-Err-Instances-clause-status : goal.returns-in-Err-Instances-clause-status
returns-in-Err-Instances-clause-status c =
    ok_so c.other_config.result c.other_config.ensures (λ e is. inr (inr (inl (ap (λ (x : Ended). x.status) is ∙ input_status c.args.name.now (codes "other config")))))
