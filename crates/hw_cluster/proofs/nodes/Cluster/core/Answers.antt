use Rattle.std.proofs.Common.{◌<◌, ap, sym, subst, ◌∙◌, arith}
use Rattle.hw_cluster.specs.Nodes.{ClusterState, nodes_in, node_in}
use Rattle.hw_cluster.proofs.NodesLaws.{core_is}
use Rattle.hw_cluster.proofs.ActLaws.{many}
use Rattle.hw_cluster.proofs.nodes.Cluster.core.Goals as goal

pub index-requires : goal.index-requires
index-requires c =
    let lt = subst (λ (s : ClusterState). c.args.node < nodes_in s) (sym c.self.view_is) c.requires in
    let e = many c.self.inside.config c.self.inside.nodes.items c.self.inside.sent.items in
    omega arith

pub returns : goal.returns
returns c =
    let lt = subst (λ (s : ClusterState). c.args.node < nodes_in s) (sym c.self.view_is) c.requires in
    let e = many c.self.inside.config c.self.inside.nodes.items c.self.inside.sent.items in
    core_is c.self.inside.config c.self.inside.nodes.items c.self.inside.sent.items c.self.invariant.have c.args.node (omega arith) c.index.result.now c.index.ensures
    ∙ ap (λ (s : ClusterState). node_in s c.args.node) c.self.view_is
