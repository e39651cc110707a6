use Rattle.std.proofs.Common.{◌≡◌, ap, subst, ◌∙◌, arith}
use Rattle.hw_types.specs.declared.unit.SignedUnit.{SignedUnit}
use Rattle.hw_dag.specs.Dag.{UnitGraph, SettledUnit, seq_of, unit_at}
use Rattle.hw_dag.specs.Tables.{IsKept}
use Rattle.hw_dag.proofs.KeptLaws.{kept_lane_depth, kept_lane_found}
use Rattle.hw_dag.proofs.graph.Dag.lane_at.Goals as goal

pub walk-requires-clause-depth : goal.walk-requires-clause-depth
walk-requires-clause-depth g c =
    let kept = subst (λ (d : UnitGraph). IsKept d c.self.inside.names.names c.self.inside.lanes.backs c.self.inside.chains.backs) c.self.view_is c.self.invariant.0 in
    let seq = ap (λ (s : SignedUnit). s.unit.seq) c.signed.ensures ∙ ap (λ (u : SettledUnit). seq_of u) c.unit.ensures in
    kept_lane_depth c.args.self.now _ _ _ kept c.args.no.0 c.signed.result.now.unit.seq c.requires.known seq

pub returns-clause-found : goal.returns-clause-found
returns-clause-found g c =
    let kept = subst (λ (d : UnitGraph). IsKept d c.self.inside.names.names c.self.inside.lanes.backs c.self.inside.chains.backs) c.self.view_is c.self.invariant.0 in
    let seq : c.signed.result.now.unit.seq ≡ seq_of (unit_at c.args.self.now c.args.no.0) = ap (λ (s : SignedUnit). s.unit.seq) c.signed.ensures ∙ ap (λ (u : SettledUnit). seq_of u) c.unit.ensures in
    let within = c.requires.within in
    kept_lane_found c.args.self.now _ _ _ kept c.args.no.0 c.signed.result.now.unit.seq c.args.seq c.walk.result.0 c.requires.known seq (omega arith) c.walk.ensures.found
