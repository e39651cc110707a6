use Rattle.std.proofs.Common.{subst}
use Rattle.hw_dag.specs.Dag.{UnitGraph}
use Rattle.hw_dag.specs.Admission.{IsGraph}
use Rattle.hw_dag.specs.Tables.{AreLatest}
use Rattle.hw_dag.proofs.LatestLaws.{one_lane}
use Rattle.hw_dag.proofs.graph.Dag.is_forked.Goals as goal

pub returns : goal.returns
returns c = λ unforked.
    let graph = subst IsGraph c.self.view_is c.self.invariant.0.graph_is in
    let latest = subst (λ (d : UnitGraph). AreLatest d c.self.inside.latest) c.self.view_is c.self.invariant.2 in
    one_lane c.args.self.now graph c.self.inside.latest latest (c.self.invariant.3 unforked)
