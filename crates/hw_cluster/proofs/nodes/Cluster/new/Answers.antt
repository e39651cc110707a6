use Rattle.std.proofs.Common.{◌≡◌, List, None, sym, ap, subst, ◌∙◌, rules}
use Rattle.std.proofs.lemmas.Result.{err_from_is_err_and}
use Rattle.hw_types.specs.declared.unit.Vertex.{Vertex}
use Rattle.hw_types.specs.Limits.{config_fault}
use Rattle.hw_cluster.specs.Nodes.{state_of, AreNodes}
use Rattle.hw_cluster.proofs.NodesLaws.{begun_is, begun_nodes}
use Rattle.hw_cluster.proofs.nodes.Cluster.new.Goals as goal

pub invariant_of-result : goal.invariant_of-result
invariant_of-result c =
    let lawful : config_fault c.args.config ≡ None = search rules in
    subst (λ (vs : List Vertex). AreNodes c.args.config c.in_ok-nodes.nodes.items vs) (sym c.new.ensures.items)
    (begun_nodes c.args.config c.args.nodes c.in_ok-nodes.nodes.items c.in_ok-nodes.ensures lawful c.requires.some c.requires.few)

pub returns-clause-begun : goal.returns-clause-begun
returns-clause-begun c =
    ap (λ (vs : List Vertex). state_of c.args.config c.in_ok-nodes.nodes.items vs) c.new.ensures.items ∙ begun_is c.args.config c.args.nodes c.in_ok-nodes.nodes.items c.in_ok-nodes.ensures

pub returns-in_err-nodes-clause-fault : goal.returns-in_err-nodes-clause-fault
returns-in_err-nodes-clause-fault c =
    let lawful : config_fault c.args.config ≡ None = search rules in
    let p = err_from_is_err_and c.from_residual.result c.from_residual.ensures.1 in
    rw (p.1, p.2) lawful
