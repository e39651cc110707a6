use Rattle.std.proofs.Common.{◌+◌, ℕ, List, length, ap, subst, arith}
use Rattle.hw_types.specs.declared.config.Config.{Config}
use Rattle.hw_types.specs.Votes.{weight_of}
use Rattle.hw_dag.specs.declared.numbers.View.{View}
use Rattle.hw_dag.specs.Dag.{UnitGraph, graph, count_of}
use Rattle.hw_admit.specs.State.{NodeState, is_faulty_in}
use Rattle.hw_horizon.specs.DetectorLaws.{DecidesOn}
use Rattle.hw_core.specs.Decided.{DecidedState}
use Rattle.hw_core.proofs.CountLaws.{graph_length}
use Rattle.hw_core.proofs.decided.Decided.run.Goals as goal

pub run-outcome-requires-clause-room : goal.run-outcome-requires-clause-room
run-outcome-requires-clause-room c =
    let same = ap (λ (d : UnitGraph). count_of d) c.dag-dag.ensures.dag in
    let long = graph_length c.fork-fork.new.self.dag c.dag-dag.ensures.graph in
    let units = ap (λ (t : NodeState). length (graph t.dag)) c.fork-fork.ensures.unchanged in
    let room = c.requires.room.found in
    let view = ap (λ (d : DecidedState). length d.detector.found + d.detector.spare) c.self.view_is in
    omega arith

pub list-requires-clause-room : goal.list-requires-clause-room
list-requires-clause-room c =
    let same = ap (λ (d : UnitGraph). count_of d) c.dag-dag.ensures.dag in
    let long = graph_length c.fork-fork.new.self.dag c.dag-dag.ensures.graph in
    let units = ap (λ (t : NodeState). length (graph t.dag)) c.fork-fork.ensures.unchanged in
    let room = c.requires.room.listed in
    let view = ap (λ (d : DecidedState). d.room) c.self.view_is in
    let few = c.run-outcome.ensures.kept.few in
    omega arith

pub returns-clause-decides : goal.returns-clause-decides
returns-clause-decides c =
    let after = c.run-outcome.new.self.found in
    let at = c.args.at in
    let inside = c.self.inside.detector in
    let here = c.fork-fork.new.self in
    let one = subst (λ (d : UnitGraph). DecidesOn inside.config d c.panorama.result.now c.faulty_weight-faulty.result at inside.found after) c.dag-dag.ensures.dag c.run-outcome.ensures.decisions in
    let two = subst (λ (p : List View). DecidesOn inside.config here.dag p c.faulty_weight-faulty.result at inside.found after) c.panorama.ensures.panorama one in
    let three = subst (λ (w : ℕ). DecidesOn inside.config here.dag here.panorama w at inside.found after) c.faulty_weight-faulty.ensures two in
    let four = subst (λ (t : NodeState). DecidesOn inside.config t.dag t.panorama (weight_of t.config.weights (is_faulty_in t.marked (graph t.dag))) at inside.found after) c.fork-fork.ensures.unchanged three in
    let state = c.args.state.now in
    let five = subst (λ (d : DecidedState). DecidesOn d.detector.config state.dag state.panorama (weight_of state.config.weights (is_faulty_in state.marked (graph state.dag))) at d.detector.found after) c.self.view_is four in
    subst (λ (g : Config). DecidesOn g state.dag state.panorama (weight_of state.config.weights (is_faulty_in state.marked (graph state.dag))) at c.args.self.now.detector.found after) c.requires.told.config five
