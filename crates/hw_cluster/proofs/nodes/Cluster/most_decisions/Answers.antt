use Rattle.std.proofs.Common.{ℕ, List, length, sym, ap, subst, arith}
use Rattle.hw_types.specs.Real.{CoreState, setting_of}
use Rattle.hw_honest.specs.Simulated.{IsMostDecisions}
use Rattle.hw_cluster.specs.Nodes.{ClusterState, nodes_in, nodes_of, HaveConfig}
use Rattle.hw_cluster.proofs.ActLaws.{many}
use Rattle.hw_cluster.proofs.nodes.Cluster.most_decisions.Goals as goal

pub most_decisions-requires : goal.most_decisions-requires
most_decisions-requires c =
    let some = c.self.invariant.sound.some in
    let e = many c.self.inside.config c.self.inside.nodes.items c.self.inside.sent.items in
    let f = ap (λ (ks : List CoreState). length ks) c.deref.ensures.value in
    omega arith

pub returns : goal.returns
returns c =
    let k = c.self.inside in
    let e = c.deref.ensures.value in
    subst (λ (s : ClusterState). IsMostDecisions (setting_of s.config) (nodes_in s) s.cluster c.most_decisions.result) c.self.view_is
    (subst (λ (n : ℕ). IsMostDecisions (setting_of k.config) n (nodes_of k.nodes.items k.sent.items) c.most_decisions.result) (sym (many k.config k.nodes.items k.sent.items))
    (subst (λ (ks : List CoreState). IsMostDecisions (setting_of k.config) (length ks) (nodes_of ks k.sent.items) c.most_decisions.result) e
    (c.most_decisions.ensures k.config k.sent.items (subst (HaveConfig k.config) (sym e) c.self.invariant.have))))
