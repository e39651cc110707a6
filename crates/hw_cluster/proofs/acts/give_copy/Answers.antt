use Rattle.std.proofs.Common.{◌≡◌, List, ap, ◌∙◌}
use Rattle.hw_types.specs.declared.config.Config.{Config}
use Rattle.hw_types.specs.declared.unit.Vertex.{Vertex}
use Rattle.hw_types.specs.Real.{setting_of}
use Rattle.hw_honest.specs.Cluster.{answer_at, after_delivery}
use Rattle.hw_cluster.specs.Nodes.{nodes_of, HaveConfig}
use Rattle.hw_cluster.proofs.NodesLaws.{if_ok, on_ok}
use Rattle.hw_cluster.proofs.acts.give_copy.Goals as goal

pub returns-clause-answer : goal.returns-clause-answer
returns-clause-answer c =
    let cores = c.args.nodes.now.items in
    let sent = c.args.sent.now.items in
    if_ok c.give_to.result (λ answer. (config : Config) (others : List Vertex) → HaveConfig config cores → answer ≡ answer_at (setting_of config) (nodes_of cores others) c.args.node c.in_ok-copy.copy)
    (λ answer. (config : Config) → HaveConfig config cores → answer ≡ answer_at (setting_of config) (nodes_of cores sent) c.args.node c.args.vertex.now)
    (λ answer h config have. h config sent have ∙ ap (λ (v : Vertex). answer_at (setting_of config) (nodes_of cores sent) c.args.node v) c.in_ok-copy.ensures)
    c.give_to.ensures.answer

pub returns-clause-taken : goal.returns-clause-taken
returns-clause-taken c =
    let cores = c.args.nodes.now.items in
    let sent = c.args.sent.now.items in
    let later = c.give_to.new.nodes.items in
    on_ok c.give_to.result ((config : Config) (others : List Vertex) → HaveConfig config cores → nodes_of later others ≡ after_delivery (setting_of config) (nodes_of cores others) c.args.node c.in_ok-copy.copy)
    ((config : Config) → HaveConfig config cores → nodes_of later sent ≡ after_delivery (setting_of config) (nodes_of cores sent) c.args.node c.args.vertex.now)
    (λ h config have. h config sent have ∙ ap (λ (v : Vertex). after_delivery (setting_of config) (nodes_of cores sent) c.args.node v) c.in_ok-copy.ensures)
    c.give_to.ensures.taken
