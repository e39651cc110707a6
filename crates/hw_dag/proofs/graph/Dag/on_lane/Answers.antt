use Rattle.std.proofs.Common.{sym, ap, subst, ◌∙◌, eqb, eqb-true, inl, inr}
use Rattle.hw_types.proofs.WordsLaws.{either}
use Rattle.hw_types.specs.declared.unit.SignedUnit.{SignedUnit}
use Rattle.hw_dag.specs.Dag.{SettledUnit, creator_of}
use Rattle.hw_dag.specs.Admission.{IsGraph}
use Rattle.hw_dag.proofs.PlaceLaws.{read_unit}
use Rattle.hw_dag.proofs.LatestLaws.{lane_of_one}
use Rattle.hw_dag.proofs.graph.Dag.on_lane.Goals as goal

pub returns-else-signed-creator : goal.returns-else-signed-creator
returns-else-signed-creator c =
    let graph = subst IsGraph c.self.view_is c.self.invariant.0.graph_is in
    let low = ap (λ (s : SignedUnit). s.unit.creator) c.signed.ensures ∙ ap (λ (u : SettledUnit). creator_of u) (read_unit _ c.args.self.now c.args.low.0 c.index.result.now c.self.view_is c.requires.low_known c.index.ensures) in
    let high = ap (λ (s : SignedUnit). s.unit.creator) c.signed-2.ensures ∙ ap (λ (u : SettledUnit). creator_of u) (read_unit _ c.args.self.now c.args.high.0 c.index-2.result.now c.self.view_is c.requires.high_known c.index-2.ensures) in
    let other = c.if-signed-creator.false in
    elim (either (eqb c.signed-2.result.now.unit.creator c.signed.result.now.unit.creator)) [
      | inl t ↦ absurd (other (eqb-true c.signed-2.result.now.unit.creator c.signed.result.now.unit.creator t))
      | inr f ↦ f ∙ lane_of_one c.args.self.now graph c.args.low.0 c.args.high.0 c.requires.low_known c.requires.high_known (λ e. other (high ∙ e ∙ sym low))
    ]
