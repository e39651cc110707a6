use Rattle.std.proofs.Common.{ap, subst, ◌∙◌, arith}
use Rattle.hw_types.specs.declared.unit.SignedUnit.{SignedUnit}
use Rattle.hw_dag.specs.Dag.{SettledUnit, creator_of}
use Rattle.hw_dag.specs.Admission.{IsGraph}
use Rattle.hw_dag.proofs.PlaceLaws.{read_unit, read_slot}
use Rattle.hw_dag.proofs.MarkLaws.{seen_not_later, seen_by_number, seen_by_none}
use Rattle.hw_dag.proofs.graph.Dag.known_below.Goals as goal

pub returns-then-high-low-clause-told : goal.returns-then-high-low-clause-told
returns-then-high-low-clause-told c =
    let graph = subst IsGraph c.self.view_is c.self.invariant.0.graph_is in
    seen_not_later c.args.self.now graph c.args.low.0 c.args.high.0 c.requires.low_known c.requires.high_known c.if-high-low.true

pub returns-in-Absent-clause-told : goal.returns-in-Absent-clause-told
returns-in-Absent-clause-told c =
    let graph = subst IsGraph c.self.view_is c.self.invariant.0.graph_is in
    let creator = ap (λ (s : SignedUnit). s.unit.creator) c.signed.ensures ∙ ap (λ (u : SettledUnit). creator_of u) (read_unit _ c.args.self.now c.args.low.0 c.index.result.now c.self.view_is c.requires.low_known c.index.ensures) in
    let panorama = c.panorama.ensures ∙ ap (λ (u : SettledUnit). u.panorama) (read_unit _ c.args.self.now c.args.high.0 c.index-2.result.now c.self.view_is c.requires.high_known c.index-2.ensures) in
    let slot = read_slot _ c.panorama.result.now _ c.signed.result.now.unit.creator c.get.result panorama creator c.get.ensures in
    let less = c.if-high-low.false in
    seen_by_none c.args.self.now graph c.args.low.0 c.args.high.0 (omega arith) c.requires.high_known (slot ∙ c.in-Absent.is)

pub returns-in-Correct-clause-told : goal.returns-in-Correct-clause-told
returns-in-Correct-clause-told c =
    let graph = subst IsGraph c.self.view_is c.self.invariant.0.graph_is in
    let creator = ap (λ (s : SignedUnit). s.unit.creator) c.signed.ensures ∙ ap (λ (u : SettledUnit). creator_of u) (read_unit _ c.args.self.now c.args.low.0 c.index.result.now c.self.view_is c.requires.low_known c.index.ensures) in
    let panorama = c.panorama.ensures ∙ ap (λ (u : SettledUnit). u.panorama) (read_unit _ c.args.self.now c.args.high.0 c.index-2.result.now c.self.view_is c.requires.high_known c.index-2.ensures) in
    let slot = read_slot _ c.panorama.result.now _ c.signed.result.now.unit.creator c.get.result panorama creator c.get.ensures in
    let less = c.if-high-low.false in
    c.on_lane.ensures ∙ seen_by_number c.args.self.now graph c.args.low.0 c.args.high.0 c.in-Correct.no (omega arith) c.requires.high_known (slot ∙ c.in-Correct.is)
