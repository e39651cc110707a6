use Rattle.std.proofs.Common.{List, sym, ap, subst, ◌∙◌}
use Rattle.hw_types.specs.declared.config.Config.{Config}
use Rattle.hw_dag.specs.declared.numbers.View.{View}
use Rattle.hw_dag.specs.Dag.{UnitGraph, graph, node_at, observations}
use Rattle.hw_horizon.specs.Kept.{AreKept}
use Rattle.hw_core.specs.Shown.{ShownState, IsAnswer}
use Rattle.hw_core.proofs.ShownLaws.{answered}
use Rattle.hw_core.proofs.shown.Shown.show.Goals as goal

pub greatest-found-requires-clause-walks : goal.greatest-found-requires-clause-walks
greatest-found-requires-clause-walks c =
    subst (λ (d : UnitGraph). AreKept d c.self.inside.horizons.walks) (sym c.dag-dag.ensures.dag)
    (subst (λ (t : ShownState). AreKept c.args.state.now.dag t.search.walks) (sym c.self.view_is) c.requires.search.walks)

pub returns-clause-answer : goal.returns-clause-answer
returns-clause-answer c =
    let found = c.greatest-found.new.self in
    let dag = c.dag-dag.result.now in
    let panorama = c.panorama-panorama.result.now in
    let one = answered c.config.result.now.weights (graph dag) (observations dag panorama) (node_at dag c.args.block.0) c.args.level c.args.quorum found c.greatest-found.result
    c.greatest-found.ensures.exact c.greatest-found.ensures.kept c.greatest-found.ensures.found c.greatest-found.ensures.none in
    let two = subst (λ (g : Config). IsAnswer g.weights (graph dag) (observations dag panorama) (node_at dag c.args.block.0) c.args.level c.args.quorum found) c.config.ensures.config one in
    let three = subst (λ (d : UnitGraph). IsAnswer c.args.state.now.config.weights (graph d) (observations d panorama) (node_at d c.args.block.0) c.args.level c.args.quorum found) c.dag-dag.ensures.dag two in
    subst (λ (p : List View). IsAnswer c.args.state.now.config.weights (graph c.args.state.now.dag) (observations c.args.state.now.dag p) (node_at c.args.state.now.dag c.args.block.0) c.args.level c.args.quorum found)
    c.panorama-panorama.ensures.panorama three

pub returns-clause-search : goal.returns-clause-search
returns-clause-search c = record {
  validators = c.greatest-found.ensures.validators ∙ ap (λ (t : ShownState). t.search.validators) c.self.view_is ∙ c.requires.search.validators;
  levels = c.greatest-found.ensures.levels ∙ ap (λ (t : ShownState). t.search.levels) c.self.view_is ∙ c.requires.search.levels;
  walks = subst (λ (d : UnitGraph). AreKept d c.greatest-found.new.self.walks) c.dag-dag.ensures.dag c.greatest-found.ensures.walks;
}
