use Rattle.std.proofs.Common.{ℕ, Option, sym, ap, ◌∙◌}
use Rattle.std.specs.Prelude.{unwrap_or, ◌==◌}
use Rattle.hw_types.specs.Graph.{Node, is_some_and}
use Rattle.hw_types.specs.Votes.{height_of}
use Rattle.hw_dag.specs.declared.numbers.UnitNo.{UnitNo}
use Rattle.hw_dag.specs.Dag.{SettledUnit, node_at, graph}
use Rattle.hw_rules.specs.Judged.{below_of}
use Rattle.hw_rules.proofs.HeightLaws.{kept_height}
use Rattle.hw_rules.proofs.CaseLaws.{node_for}
use Rattle.hw_rules.proofs.judge.stands_at.Goals as goal
use Rattle.hw_types.proofs.HeightLaws.{chosen_below}

pub returns-in-Some : goal.returns-in-Some
returns-in-Some c =
    let weights = c.args.config.now.weights in
    let dag = c.args.dag.now in
    let p = c.args.prepared.now in
    let test = λ (b : Node). height_of weights (below_of dag p) b == c.args.height in
    let chosen = ap (node_for dag) (sym c.in-Some.is) ∙ c.requires.fork in
    let tall = kept_height weights dag c.requires.case.graph_is c.requires.weights p.signed.unit.panorama c.in-Some.block.0 (c.requires.is_fork.known c.in-Some.block c.in-Some.is) (c.requires.is_fork.block c.in-Some.block c.in-Some.is)
    (chosen_below weights (graph dag) p.signed.unit.panorama (node_at dag c.in-Some.block.0) (sym chosen)) in
    ap (λ (n : ℕ). n == c.args.height) (c.unwrap_or.ensures ∙ ap (λ (o : Option ℕ). unwrap_or o 0) (c.height.ensures ∙ ap (λ (u : SettledUnit). u.height) c.unit.ensures) ∙ sym tall)
    ∙ ap (is_some_and test) chosen

pub returns-in-None : goal.returns-in-None
returns-in-None c =
    let weights = c.args.config.now.weights in
    let dag = c.args.dag.now in
    let test = λ (b : Node). height_of weights (below_of dag c.args.prepared.now) b == c.args.height in
    ap (λ (o : Option UnitNo). is_some_and test (node_for dag o)) (sym c.in-None.is) ∙ ap (is_some_and test) c.requires.fork
