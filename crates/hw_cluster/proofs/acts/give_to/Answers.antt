use Rattle.std.proofs.Common.{◌≡◌, List, [], ap, ◌∙◌}
use Rattle.std.specs.Prelude.{slice_set, true}
use Rattle.hw_types.specs.declared.config.Config.{Config}
use Rattle.hw_types.specs.declared.unit.Vertex.{Vertex}
use Rattle.hw_types.specs.Real.{CoreState, setting_of, answer_in, after_in}
use Rattle.hw_honest.specs.Cluster.{answer_at, after_delivery}
use Rattle.hw_cluster.specs.Nodes.{nodes_of, HaveConfig}
use Rattle.hw_cluster.proofs.NodesLaws.{if_ok, on_ok, answer_there, given_there, config_given}
use Rattle.hw_cluster.proofs.acts.give_to.Goals as goal

pub returns-clause-answer : goal.returns-clause-answer
returns-clause-answer c =
    if_ok c.give.result (λ answer. answer ≡ answer_in c.index_mut.result.now c.args.vertex true)
    (λ answer. (config : Config) (sent : List Vertex) → HaveConfig config c.args.nodes.now.items → answer ≡ answer_at (setting_of config) (nodes_of c.args.nodes.now.items sent) c.args.node c.args.vertex)
    (λ answer e config sent have. e ∙ answer_there config c.args.nodes.now.items sent have c.args.node c.requires.node c.index_mut.result.now c.index_mut.ensures.value c.args.vertex)
    c.give.ensures.answer

pub returns-clause-taken : goal.returns-clause-taken
returns-clause-taken c =
    on_ok c.give.result (c.give.new.core ≡ after_in c.index_mut.result.now c.args.vertex true)
    ((config : Config) (sent : List Vertex) → HaveConfig config c.args.nodes.now.items → nodes_of (slice_set c.args.nodes.now.items c.args.node c.give.new.core) sent ≡ after_delivery (setting_of config) (nodes_of c.args.nodes.now.items sent) c.args.node c.args.vertex)
    (λ e config sent have. ap (λ (k : CoreState). nodes_of (slice_set c.args.nodes.now.items c.args.node k) sent) e ∙ given_there config c.args.nodes.now.items sent have c.args.node c.requires.node c.index_mut.result.now c.index_mut.ensures.value c.args.vertex)
    c.give.ensures.taken

pub returns-clause-config : goal.returns-clause-config
returns-clause-config c = λ config have. config_given config c.args.nodes.now.items [] have c.args.node c.requires.node c.index_mut.result.now c.index_mut.ensures.value c.args.vertex c.give.result c.give.new.core c.give.ensures.taken c.give.ensures.unchanged
