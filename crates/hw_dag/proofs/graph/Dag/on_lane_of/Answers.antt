use Rattle.std.proofs.Common.{sym, subst, ◌∙◌, arith}
use Rattle.hw_dag.specs.Dag.{UnitGraph}
use Rattle.hw_dag.specs.Admission.{IsGraph}
use Rattle.hw_dag.specs.Tables.{AreLatest}
use Rattle.hw_dag.proofs.LatestLaws.{lane_not_later, lane_by_latest}
use Rattle.hw_dag.proofs.graph.Dag.on_lane_of.Goals as goal

pub returns-then-high-low : goal.returns-then-high-low
returns-then-high-low c =
    let graph = subst IsGraph c.self.view_is c.self.invariant.0.graph_is in
    lane_not_later c.args.self.now graph c.args.low.0 c.args.high.0 c.requires.low_known c.requires.high_known c.if-high-low.true

pub returns-in-Correct : goal.returns-in-Correct
returns-in-Correct c =
    let graph = subst IsGraph c.self.view_is c.self.invariant.0.graph_is in
    let latest = subst (λ (d : UnitGraph). AreLatest d c.self.inside.latest) c.self.view_is c.self.invariant.2 in
    let more = c.if-high-low.false in
    lane_by_latest c.args.self.now graph c.self.inside.latest latest c.args.creator c.in-Correct.field-0 (sym c.get-latest.ensures ∙ c.in-Correct.is) c.args.low.0 c.args.high.0 c.requires.low_known c.requires.high_known c.requires.low_creator c.requires.high_creator more

pub get-latest-requires : goal.get-latest-requires
get-latest-requires c =
    let graph = subst IsGraph c.self.view_is c.self.invariant.0.graph_is in
    let latest = subst (λ (d : UnitGraph). AreLatest d c.self.inside.latest) c.self.view_is c.self.invariant.2 in
    let some = (graph.settled c.args.low.0 c.requires.low_known).creator_is in
    let own = c.requires.low_creator in
    let len = latest.length_is in
    omega arith
