use Rattle.std.proofs.Common.{◌∙◌, ap}
use Rattle.hw_types.specs.declared.config.Config.{Config}
use Rattle.hw_types.specs.Rules.{local_rule}
use Rattle.hw_rules.specs.Verdict.{verdict_of}
use Rattle.hw_core_cases.proofs.VerdictLaws.{local_kept}
use Rattle.hw_core_cases.proofs.graph.settling.kept_alone.Goals as goal

pub returns : goal.returns
returns c = local_kept c.args.state.now.config _ c.args.unit.now.unit c.local.result
    (c.local.ensures ∙ ap (λ (config : Config). verdict_of (local_rule config _ c.args.unit.now.unit)) c.config.ensures.config)
