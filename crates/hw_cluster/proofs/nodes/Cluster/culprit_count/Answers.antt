use Rattle.std.proofs.Common.{List, [], length, ap, ◌∙◌, arith}
use Rattle.hw_types.specs.declared.unit.Vertex.{Vertex}
use Rattle.hw_types.specs.Real.{CoreState, setting_of}
use Rattle.hw_honest.specs.Simulated.{culprits_in}
use Rattle.hw_cluster.specs.Counts.{equivocates_in}
use Rattle.hw_cluster.specs.Nodes.{ClusterState, state_of, nodes_of}
use Rattle.hw_cluster.proofs.NodesLaws.{few_validators}
use Rattle.hw_cluster.proofs.ActLaws.{many}
use Rattle.hw_cluster.proofs.ApartLaws.{none_equivocates}
use Rattle.hw_cluster.proofs.nodes.Cluster.culprit_count.Goals as goal

pub count_culprits-requires-clause-few : goal.count_culprits-requires-clause-few
count_culprits-requires-clause-few c = few_validators (state_of c.self.inside.config c.self.inside.nodes.items c.self.inside.sent.items) c.self.invariant.sound

pub count_culprits-requires-clause-nodes : goal.count_culprits-requires-clause-nodes
count_culprits-requires-clause-nodes c =
    let few = c.self.invariant.sound.reached.run.validators in
    let e = many c.self.inside.config c.self.inside.nodes.items c.self.inside.sent.items in
    let f = ap (λ (ks : List CoreState). length ks) c.deref.ensures.value in
    omega arith

pub count_culprits-requires-clause-apart : goal.count_culprits-requires-clause-apart
count_culprits-requires-clause-apart c = λ v lt.
    let k = c.self.inside in
    let e = many k.config k.nodes.items k.sent.items in
    let f = ap (λ (ks : List CoreState). length ks) c.deref.ensures.value in
    ap (λ (vs : List Vertex). equivocates_in vs v) c.deref-2.ensures.value
    ∙ none_equivocates (state_of k.config k.nodes.items k.sent.items) c.self.invariant.sound.reached v (omega (arith, lt, e, f))

pub returns : goal.returns
returns c =
    c.count_culprits.ensures
    ∙ ap (λ (vs : List Vertex). length (culprits_in (setting_of c.self.inside.config) (nodes_of [] vs))) c.deref-2.ensures.value
    ∙ ap (λ (s : ClusterState). length (culprits_in (setting_of s.config) s.cluster)) c.self.view_is
