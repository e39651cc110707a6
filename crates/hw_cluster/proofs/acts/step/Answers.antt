use Rattle.std.proofs.Common.{◌≡◌, ap, sym, ◌∙◌}
use Rattle.hw_types.specs.declared.config.Config.{Config}
use Rattle.hw_types.specs.declared.unit.Vertex.{Vertex}
use Rattle.hw_types.specs.Real.{setting_of}
use Rattle.hw_honest.specs.declared.cluster.Action.TheVariants.{Step}
use Rattle.hw_honest.specs.Cluster.{answer_at, after_own, outcome}
use Rattle.hw_cluster.specs.Nodes.{nodes_of, state_of, HaveConfig, acted_in, left_by}
use Rattle.hw_cluster.proofs.NodesLaws.{core_config, if_ok, on_ok}
use Rattle.hw_cluster.proofs.ActLaws.{inside, node_fit, idle_acted, idle_left, made_acted, made_left}
use Rattle.hw_cluster.proofs.acts.step.Goals as goal

pub plan_of-requires-clause-config : goal.plan_of-requires-clause-config
plan_of-requires-clause-config c =
    let k = c.args.config.now in
    let lt = inside k c.args.nodes.now.items c.args.sent.now.items c.requires.nodes c.args.node c.requires.can.0 in
    core_config k c.args.nodes.now.items c.args.sent.now.items c.requires.nodes.have c.args.node lt c.index.result.now c.index.ensures

pub plan_of-requires-clause-fit : goal.plan_of-requires-clause-fit
plan_of-requires-clause-fit c = node_fit c.args.config.now c.args.nodes.now.items c.args.sent.now.items c.requires.nodes c.args.node c.requires.can.0 c.index.result.now c.index.ensures

pub returns-in_ok-named-in-Some-clause-answer : goal.returns-in_ok-named-in-Some-clause-answer
returns-in_ok-named-in-Some-clause-answer c =
    let k = c.args.config.now in
    let cores = c.args.nodes.now.items in
    let sent = c.args.sent.now.items in
    let p = c.in-Some.plan in
    let lt = inside k cores sent c.requires.nodes c.args.node c.requires.can.0 in
    if_ok c.make.result (λ answer. (config : Config) → HaveConfig config cores → answer ≡ outcome p.kind (answer_at (setting_of config) (nodes_of cores sent) c.args.node c.in_ok-named-in-Some.field-0))
    (λ answer. answer ≡ acted_in (state_of k cores sent) (Step c.args.node c.args.now))
    (λ answer h. made_acted k cores sent c.requires.nodes.have c.args.node lt c.index.result.now c.index.ensures c.args.now p (sym c.in-Some.is ∙ c.in_ok-plan.ensures.plan) answer
    (h k c.requires.nodes.have ∙ ap (λ (v : Vertex). outcome p.kind (answer_at (setting_of k) (nodes_of cores sent) c.args.node v)) c.in_ok-named-in-Some.ensures))
    c.make.ensures.answer

pub returns-in_ok-named-in-Some-clause-left : goal.returns-in_ok-named-in-Some-clause-left
returns-in_ok-named-in-Some-clause-left c =
    let k = c.args.config.now in
    let cores = c.args.nodes.now.items in
    let sent = c.args.sent.now.items in
    let p = c.in-Some.plan in
    let lt = inside k cores sent c.requires.nodes c.args.node c.requires.can.0 in
    let later = c.make.new.nodes.items in
    let more = c.make.new.sent.items in
    on_ok c.make.result ((config : Config) → HaveConfig config cores → nodes_of later more ≡ after_own (setting_of config) (nodes_of cores sent) c.args.node c.in_ok-named-in-Some.field-0)
    (state_of k later more ≡ left_by (state_of k cores sent) (Step c.args.node c.args.now))
    (λ h. made_left k cores sent c.requires.nodes.have c.args.node lt c.index.result.now c.index.ensures c.args.now p (sym c.in-Some.is ∙ c.in_ok-plan.ensures.plan) later more
    (h k c.requires.nodes.have ∙ ap (λ (v : Vertex). after_own (setting_of k) (nodes_of cores sent) c.args.node v) c.in_ok-named-in-Some.ensures))
    c.make.ensures.left

pub returns-in_ok-named-in-Some-clause-config : goal.returns-in_ok-named-in-Some-clause-config
returns-in_ok-named-in-Some-clause-config c = c.make.ensures.config c.args.config.now c.requires.nodes.have

pub returns-in-None-clause-answer : goal.returns-in-None-clause-answer
returns-in-None-clause-answer c =
    let k = c.args.config.now in
    let lt = inside k c.args.nodes.now.items c.args.sent.now.items c.requires.nodes c.args.node c.requires.can.0 in
    idle_acted k c.args.nodes.now.items c.args.sent.now.items c.requires.nodes.have c.args.node lt c.index.result.now c.index.ensures c.args.now (sym c.in-None.is ∙ c.in_ok-plan.ensures.plan)

pub returns-in-None-clause-left : goal.returns-in-None-clause-left
returns-in-None-clause-left c =
    let k = c.args.config.now in
    let lt = inside k c.args.nodes.now.items c.args.sent.now.items c.requires.nodes c.args.node c.requires.can.0 in
    idle_left k c.args.nodes.now.items c.args.sent.now.items c.requires.nodes.have c.args.node lt c.index.result.now c.index.ensures c.args.now (sym c.in-None.is ∙ c.in_ok-plan.ensures.plan)
