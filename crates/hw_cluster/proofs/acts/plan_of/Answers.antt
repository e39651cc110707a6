use Rattle.std.proofs.Common.{◌≡◌, ◌<◌, length, ap, sym, subst, ◌∙◌, None, Option, IfSome}
use Rattle.hw_types.specs.declared.config.Config.{Config}
use Rattle.hw_types.specs.declared.answers.Plan.{Plan}
use Rattle.hw_types.specs.Limits.{config_fault}
use Rattle.hw_types.specs.Real.{setting_of}
use Rattle.hw_types.specs.Spelling.{Fits}
use Rattle.hw_honest.specs.Cluster.{value_at}
use Rattle.hw_validator.specs.Step.{step_of}
use Rattle.hw_cluster.specs.Nodes.{plan_in}
use Rattle.hw_cluster.proofs.NodesLaws.{if_ok, core_plan_fits}
use Rattle.hw_cluster.proofs.StepLaws.{plan_is}
use Rattle.hw_cluster.proofs.acts.plan_of.Goals.{After-drop-value-inside}
use Rattle.hw_cluster.proofs.acts.plan_of.Goals as goal

-- what the state plans is what the node plans
planned : (c : After-drop-value-inside) (o : Option Plan) → o ≡ step_of c.state.result.now c.args.node c.args.now c.as_slice.result.now → o ≡ plan_in c.args.core.now c.args.node c.args.now
planned c o e =
    plan_is c.args.core.now c.state.result.now c.state.ensures.config c.state.ensures.settled c.state.ensures.panorama c.state.ensures.endorsements
    c.args.node c.args.now c.as_slice.result.now
    (c.as_slice.ensures ∙ c.in_ok-value.ensures.value ∙ ap (λ (k : Config). value_at (setting_of k) c.args.node c.args.now) (sym c.requires.config))
    o e

pub returns-clause-plan : goal.returns-clause-plan
returns-clause-plan c =
    if_ok c.next_unit_of.result (λ plan. plan ≡ step_of c.state.result.now c.args.node c.args.now c.as_slice.result.now) (λ plan. plan ≡ plan_in c.args.core.now c.args.node c.args.now) (planned c) c.next_unit_of.ensures.step

pub returns-clause-fits : goal.returns-clause-fits
returns-clause-fits c =
    if_ok c.next_unit_of.result (λ plan. plan ≡ step_of c.state.result.now c.args.node c.args.now c.as_slice.result.now) (λ plan. IfSome plan (λ p. Fits p.unit))
    (λ o e. core_plan_fits c.args.core.now c.args.node c.args.now (subst (λ (k : Config). config_fault k ≡ None) (sym c.requires.config) c.requires.lawful)
    (subst (λ (k : Config). c.args.node < length k.weights) (sym c.requires.config) c.requires.node) c.requires.now c.requires.fit o (planned c o e))
    c.next_unit_of.ensures.step
