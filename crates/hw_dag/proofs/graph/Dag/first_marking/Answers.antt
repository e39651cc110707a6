use Rattle.std.proofs.Common.{ap, subst, ◌∙◌, arith}
use Rattle.hw_types.specs.declared.unit.SignedUnit.{SignedUnit}
use Rattle.hw_dag.specs.Dag.{SettledUnit, seq_of}
use Rattle.hw_dag.specs.Admission.{IsGraph}
use Rattle.hw_dag.proofs.PlaceLaws.{read_unit}
use Rattle.hw_dag.proofs.LatestLaws.{lane_itself}
use Rattle.hw_dag.proofs.graph.Dag.first_marking.Goals as goal

pub loop-from-init : goal.loop-from-init
loop-from-init c =
    let graph = subst IsGraph c.self.view_is c.self.invariant.0.graph_is in
    let seq = ap (λ (s : SignedUnit). s.unit.seq) c.signed.ensures ∙ ap (λ (u : SettledUnit). seq_of u) (read_unit _ c.args.self.now c.args.no.0 c.index.result.now c.self.view_is c.requires c.index.ensures) in
    (c.requires, lane_itself c.args.self.now graph c.args.no.0 c.requires, omega arith)
