use Rattle.std.proofs.Common.{◌≡◌, ◌≤◌, ℕ, List, refl, sym, ap, subst, ◌∙◌}
use Rattle.hw_types.specs.declared.config.Config.{Config}
use Rattle.hw_types.specs.Summit.{HasSummit, IsGreatest}
use Rattle.hw_dag.specs.Admission.{IsGraph}
use Rattle.hw_dag.specs.Dag.{UnitGraph, graph, node_at, observations}
use Rattle.hw_horizon.specs.Search.{committees_of}
use Rattle.hw_explain.proofs.GreatestLaws.{level_now, never_new, has_summit, found_is}
use Rattle.hw_explain.proofs.summit.find.Goals as goal

pub greatest-found-requires-clause-level : goal.greatest-found-requires-clause-level
greatest-found-requires-clause-level c = subst (λ n. c.args.decision.now.level ≤ n) (sym c.requires.fresh.levels) (level_now c.args.core.now c.args.decision.now c.requires.now)

pub greatest-found-requires-clause-walks : goal.greatest-found-requires-clause-walks
greatest-found-requires-clause-walks c = c.requires.fresh.walks c.dag-dag.result.now

pub returns-in-Some : goal.returns-in-Some
returns-in-Some c =
    let core = c.args.core.now in
    let d = c.args.decision.now in
    let dag = c.dag-dag.result.now in
    let panorama = observations dag c.panorama-panorama.result.now in
    let same : dag ≡ c.state-state.result.now.dag = c.dag-dag.ensures.dag in
    let g = subst (λ (x : UnitGraph). IsGraph x) (sym same) c.dag-dag.ensures.graph in
    let settled = ap graph same ∙ c.state-state.ensures.settled in
    let seen = ap (λ (x : UnitGraph). observations x c.panorama-panorama.result.now) same ∙ ap (observations c.state-state.result.now.dag) c.panorama-panorama.ensures.panorama ∙ c.state-state.ensures.panorama in
    let weights : c.config.result.now.weights ≡ core.config.weights = ap (λ (k : Config). k.weights) (c.config.ensures.config ∙ c.state-state.ensures.config) in
    let summit = has_summit core d c.requires.now dag g settled panorama seen c.in-Some.block.0 c.in-Some.ensures.found.0 c.in-Some.ensures.found.1 in
    let true_is = c.greatest-found.ensures.exact.1 (subst (λ (ws : List ℕ). HasSummit ws (graph dag) panorama (node_at dag c.in-Some.block.0) d.level d.quorum) (sym weights) summit) in
    found_is core d c.requires.now dag g settled panorama seen c.in-Some.block.0 c.in-Some.ensures.found.0 c.in-Some.ensures.found.1 c.greatest-found.new.self
    (subst (λ (ws : List ℕ). IsGreatest ws (graph dag) panorama (node_at dag c.in-Some.block.0) d.level d.quorum (committees_of c.greatest-found.new.self)) weights (c.greatest-found.ensures.kept true_is))

pub returns-in_default : goal.returns-in_default
returns-in_default c =
    let dag = c.dag-dag.result.now in
    let same : dag ≡ c.state-state.result.now.dag = c.dag-dag.ensures.dag in
    let g = subst (λ (x : UnitGraph). IsGraph x) (sym same) c.dag-dag.ensures.graph in
    let settled = ap graph same ∙ c.state-state.ensures.settled in
    absurd (never_new c.args.core.now c.args.decision.now c.requires.now dag g settled (c.in_default.ensures.none.0 refl))
