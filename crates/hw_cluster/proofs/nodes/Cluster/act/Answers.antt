use Rattle.std.proofs.Common.{◌≡◌, IfOk, OnOk, OnErr, sym, subst}
use Rattle.hw_cluster.specs.Nodes.{ClusterState, CanAct, state_of, acted_in, left_by}
use Rattle.hw_cluster.proofs.ActLaws.{sound_either}
use Rattle.hw_cluster.proofs.TogetherLaws.{are_apart}
use Rattle.hw_cluster.proofs.nodes.Cluster.act.Goals as goal

pub act_on-requires : goal.act_on-requires
act_on-requires c = record {
  nodes = c.self.invariant;
  can = subst (λ (s : ClusterState). CanAct s c.args.action) (sym c.self.view_is) c.requires;
}

pub invariant_of-self : goal.invariant_of-self
invariant_of-self c =
    let k = c.self.inside in record {
      have = c.act_on.ensures.config;
      sound = sound_either (state_of k.config k.nodes.items k.sent.items) (state_of k.config c.act_on.new.nodes.items c.act_on.new.sent.items) c.args.action c.act_on.result c.self.invariant.sound
          (subst (λ (s : ClusterState). CanAct s c.args.action) (sym c.self.view_is) c.requires) c.act_on.ensures.left c.act_on.ensures.unchanged;
    }

pub returns-clause-answer : goal.returns-clause-answer
returns-clause-answer c = subst (λ (s : ClusterState). IfOk c.act_on.result (λ answer. answer ≡ acted_in s c.args.action)) c.self.view_is c.act_on.ensures.answer

pub returns-clause-left : goal.returns-clause-left
returns-clause-left c =
    subst (λ (s : ClusterState). OnOk c.act_on.result (state_of c.self.inside.config c.act_on.new.nodes.items c.act_on.new.sent.items ≡ left_by s c.args.action)) c.self.view_is c.act_on.ensures.left

pub returns-clause-unchanged : goal.returns-clause-unchanged
returns-clause-unchanged c =
    subst (λ (s : ClusterState). OnErr c.act_on.result (state_of c.self.inside.config c.act_on.new.nodes.items c.act_on.new.sent.items ≡ s)) c.self.view_is c.act_on.ensures.unchanged

pub returns-clause-apart : goal.returns-clause-apart
returns-clause-apart c =
    let k = c.self.inside in
    let new = state_of k.config c.act_on.new.nodes.items c.act_on.new.sent.items in
    let sound = sound_either (state_of k.config k.nodes.items k.sent.items) new c.args.action c.act_on.result c.self.invariant.sound
    (subst (λ (s : ClusterState). CanAct s c.args.action) (sym c.self.view_is) c.requires) c.act_on.ensures.left c.act_on.ensures.unchanged in
    are_apart new sound.reached

pub returns-clause-reached : goal.returns-clause-reached
returns-clause-reached c =
    let k = c.self.inside in
    let sound = sound_either (state_of k.config k.nodes.items k.sent.items) (state_of k.config c.act_on.new.nodes.items c.act_on.new.sent.items) c.args.action c.act_on.result c.self.invariant.sound
    (subst (λ (s : ClusterState). CanAct s c.args.action) (sym c.self.view_is) c.requires) c.act_on.ensures.left c.act_on.ensures.unchanged in
    sound.reached
