use Rattle.std.proofs.Common.{◌≡◌, List, map, subst}
use Rattle.std.specs.Prelude.{filter}
use Rattle.hw_dag.specs.declared.numbers.View.{View}
use Rattle.hw_dag.specs.Dag.{UnitGraph, node_of, graph, observations}
use Rattle.hw_horizon.specs.Search.{committees_of}
use Rattle.hw_light.specs.Extract.{is_under}
use Rattle.hw_light.specs.Under.{AreKnown, nodes_at}
use Rattle.hw_light.proofs.SummitLaws.{under_is}
use Rattle.hw_light.proofs.summit.summit_units.Goals as goal

pub returns-then-not-find_summit-clause-none : goal.returns-then-not-find_summit-clause-none
returns-then-not-find_summit-clause-none c = λ now.
    let found = c.find_summit.ensures.exact.1 now in
    let none = c.if-not-find_summit.true in
    absurd cc

pub returns-clause-under : goal.returns-clause-under
returns-clause-under c =
    let core = c.args.core.now in
    let state = c.args.state.now in
    let found = committees_of c.find_summit.new.search in
    let dag = c.dag.ensures.dag in
    let numbers = c.in_ok-numbers.numbers.items in
    record {
      committees = found;
      greatest = c.find_summit.ensures.greatest c.if-not-find_summit.false;
      known = subst (λ (d : UnitGraph). AreKnown d numbers) dag c.in_ok-numbers.ensures.known;
      units_are = under_is core state c.requires.of found numbers
          (subst (λ (p : List View). nodes_at state.dag numbers ≡ filter (is_under (graph state.dag) (observations state.dag p) found) (map node_of state.dag.units)) c.panorama.ensures.panorama
          (subst (λ (d : UnitGraph). nodes_at d numbers ≡ filter (is_under (graph d) (observations d c.panorama.result.now) found) (map node_of d.units)) dag c.in_ok-numbers.ensures.under));
    }
