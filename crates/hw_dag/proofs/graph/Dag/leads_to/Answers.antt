use Rattle.std.proofs.Common.{ℕ, sym, ap, subst, ◌∙◌, arith}
use Rattle.hw_types.specs.declared.unit.SignedUnit.{SignedUnit}
use Rattle.hw_dag.specs.Dag.{SettledUnit, seq_of}
use Rattle.hw_dag.specs.Admission.{IsGraph}
use Rattle.hw_dag.specs.Lanes.{IsLaneAt}
use Rattle.hw_dag.proofs.PlaceLaws.{read_unit}
use Rattle.hw_dag.proofs.LaneLaws.{never_higher, on_lane_by_number}
use Rattle.hw_dag.proofs.graph.Dag.leads_to.Goals as goal

pub returns-then-signed-seq : goal.returns-then-signed-seq
returns-then-signed-seq c =
    let graph = subst IsGraph c.self.view_is c.self.invariant.0.graph_is in
    let low = ap (λ (s : SignedUnit). s.unit.seq) c.signed.ensures ∙ ap (λ (u : SettledUnit). seq_of u) (read_unit _ c.args.self.now c.args.low.0 c.index.result.now c.self.view_is c.requires.low_known c.index.ensures) in
    let high = ap (λ (s : SignedUnit). s.unit.seq) c.signed-2.ensures ∙ ap (λ (u : SettledUnit). seq_of u) (read_unit _ c.args.self.now c.args.high.0 c.index-2.result.now c.self.view_is c.requires.high_known c.index-2.ensures) in
    let less = c.if-signed-seq.true in
    sym (never_higher c.args.self.now graph c.args.low.0 c.args.high.0 c.requires.low_known c.requires.high_known (omega arith))

pub unit_on_lane-found-requires-clause-within : goal.unit_on_lane-found-requires-clause-within
unit_on_lane-found-requires-clause-within c =
    let high = ap (λ (s : SignedUnit). s.unit.seq) c.signed-2.ensures ∙ ap (λ (u : SettledUnit). seq_of u) (read_unit _ c.args.self.now c.args.high.0 c.index-2.result.now c.self.view_is c.requires.high_known c.index-2.ensures) in
    let no_less = c.if-signed-seq.false in
    omega arith

pub returns : goal.returns
returns c =
    let graph = subst IsGraph c.self.view_is c.self.invariant.0.graph_is in
    let low = ap (λ (s : SignedUnit). s.unit.seq) c.signed.ensures ∙ ap (λ (u : SettledUnit). seq_of u) (read_unit _ c.args.self.now c.args.low.0 c.index.result.now c.self.view_is c.requires.low_known c.index.ensures) in
    on_lane_by_number c.args.self.now graph c.args.low.0 c.args.high.0 c.unit_on_lane-found.result.0 c.requires.low_known c.requires.high_known
    (subst (λ (s : ℕ). IsLaneAt c.args.self.now c.args.high.0 s c.unit_on_lane-found.result.0) low c.unit_on_lane-found.ensures)
