use Rattle.std.proofs.Common.{◌≡◌, ℕ, ◌<◌, List, length, None, sym, ap, subst, ◌∙◌, arith}
use Rattle.std.specs.Prelude.{IfOk}
use Rattle.hw_types.specs.declared.config.Config.{Config}
use Rattle.hw_types.specs.Limits.{config_fault}
use Rattle.hw_dag.specs.declared.numbers.View.{View}
use Rattle.hw_dag.specs.Dag.{UnitGraph, graph, observations, IsPanorama}
use Rattle.hw_dag.specs.Admission.{IsGraph}
use Rattle.hw_dag.specs.Lanes.{AreWeights}
use Rattle.hw_validator.proofs.NodeStepLaws.{small_exponent}
use Rattle.hw_c.specs.Due.{IsDueNow}
use Rattle.hw_c.proofs.due.due_at.Goals as goal

pub of-moment-requires-clause-exponent : goal.of-moment-requires-clause-exponent
of-moment-requires-clause-exponent c = small_exponent c.config-config.result.now (subst (λ (k : Config). config_fault k ≡ None) (sym c.config-config.ensures.config) c.config-config.ensures.lawful)

pub due_over-requires-clause-seen : goal.due_over-requires-clause-seen
due_over-requires-clause-seen c =
    let st = c.state-state.result.now in
    let seen = c.panorama-observed.result.now in
    record {
      config_is = c.config-config.ensures.config ∙ c.state-state.ensures.config;
      settled = ap graph c.dag-dag.ensures.dag ∙ c.state-state.ensures.settled;
      panorama = ap (λ (d : UnitGraph). observations d seen) c.dag-dag.ensures.dag ∙ ap (observations st.dag) c.panorama-observed.ensures.panorama ∙ c.state-state.ensures.panorama;
      graph_is = subst IsGraph (sym c.dag-dag.ensures.dag) c.dag-dag.ensures.graph;
      panorama_is = subst (λ (d : UnitGraph). IsPanorama d seen) (sym c.dag-dag.ensures.dag) (subst (λ (ws : List View). IsPanorama st.dag ws) (sym c.panorama-observed.ensures.panorama) c.panorama-observed.ensures.is_panorama);
    }

pub due_over-requires-clause-weights : goal.due_over-requires-clause-weights
due_over-requires-clause-weights c =
    let st = c.state-state.result.now in
    subst (λ (d : UnitGraph). AreWeights c.config-config.result.now.weights d) (sym c.dag-dag.ensures.dag)
    (subst (λ (k : Config). AreWeights k.weights st.dag) (sym c.config-config.ensures.config) c.dag-dag.ensures.weights)

pub due_over-requires-clause-lawful : goal.due_over-requires-clause-lawful
due_over-requires-clause-lawful c = subst (λ (k : Config). config_fault k ≡ None) (sym c.config-config.ensures.config) c.config-config.ensures.lawful

pub due_over-requires-clause-me : goal.due_over-requires-clause-me
due_over-requires-clause-me c =
    let same : length c.state-state.result.now.config.weights ≡ length c.args.core.now.config.weights = ap (λ (k : Config). length k.weights) c.state-state.ensures.config in
    let many = c.dag-dag.ensures.weights.length_is in
    let known = c.requires.me in
    subst (λ (d : UnitGraph). c.args.me < d.validators) (sym c.dag-dag.ensures.dag) (omega arith)

pub due_over-requires-clause-now : goal.due_over-requires-clause-now
due_over-requires-clause-now c = let at = c.of-moment.ensures.at in let now = c.requires.now in omega arith

pub returns : goal.returns
returns c = subst (λ (n : ℕ). IfOk c.due_over.result (IsDueNow c.args.core.now c.args.me n)) c.of-moment.ensures.at c.due_over.ensures
