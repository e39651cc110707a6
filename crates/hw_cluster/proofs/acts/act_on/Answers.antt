use Rattle.std.proofs.Common.{◌≡◌, List, [], ◌∷◌, ◌++◌, length, cond, sym, ap, ◌∙◌}
use Rattle.hw_types.specs.Real.{CoreState}
use Rattle.hw_honest.specs.declared.cluster.Action.{Action}
use Rattle.hw_honest.specs.declared.cluster.Acted.TheVariants.{NotAllowed, Forged}
use Rattle.hw_honest.specs.Cluster.{is_foreign}
use Rattle.hw_cluster.specs.Nodes.{state_of, acted_in, left_by}
use Rattle.hw_cluster.proofs.ActLaws.{forge_acted, forge_left}
use Rattle.hw_cluster.proofs.NodesLaws.{if_ok, on_ok}
use Rattle.hw_cluster.proofs.acts.act_on.Goals as goal

pub returns-in-Deliver-clause-config : goal.returns-in-Deliver-clause-config
returns-in-Deliver-clause-config c = c.pass.ensures.config c.args.config.now c.requires.nodes.have

pub returns-in-Forge-clause-answer : goal.returns-in-Forge-clause-answer
returns-in-Forge-clause-answer c =
    let k = c.args.config.now in
    let cores = c.args.nodes.now.items in
    let sent = c.args.sent.now.items in
    let v = c.in-Forge.vertex in
    if_ok c.forge.result (λ answer. answer ≡ cond (is_foreign (length c.deref.result.now) v) Forged NotAllowed) (λ answer. answer ≡ acted_in (state_of k cores sent) c.args.action)
    (λ answer h. forge_acted k cores sent v answer (h ∙ ap (λ n. cond (is_foreign n v) Forged NotAllowed) (ap (λ (ks : List CoreState). length ks) c.deref.ensures.value)) ∙ ap (λ (a : Action). acted_in (state_of k cores sent) a) (sym c.in-Forge.is))
    c.forge.ensures.answer

pub returns-in-Forge-clause-left : goal.returns-in-Forge-clause-left
returns-in-Forge-clause-left c =
    let k = c.args.config.now in
    let cores = c.args.nodes.now.items in
    let sent = c.args.sent.now.items in
    let v = c.in-Forge.vertex in
    let more = c.forge.new.sent.items in
    on_ok c.forge.result (more ≡ cond (is_foreign (length c.deref.result.now) v) (sent ++ v ∷ []) sent) (state_of k cores more ≡ left_by (state_of k cores sent) c.args.action)
    (λ h. forge_left k cores sent v more (h ∙ ap (λ n. cond (is_foreign n v) (sent ++ v ∷ []) sent) (ap (λ (ks : List CoreState). length ks) c.deref.ensures.value)) ∙ ap (λ (a : Action). left_by (state_of k cores sent) a) (sym c.in-Forge.is))
    c.forge.ensures.sent
