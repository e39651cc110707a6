use Rattle.std.proofs.Common.{◌≡◌, ◌<◌, sym, ap, ◌∙◌, arith}
use Rattle.hw_types.specs.declared.unit.SignedUnit.{SignedUnit}
use Rattle.hw_dag.specs.Dag.{SettledUnit, unit_at, seq_of}
use Rattle.hw_meeting.proofs.MarkLaws.{too_high, only_found, found_is}
use Rattle.hw_meeting.proofs.marks.is_on_lane_of.Goals as goal

pub returns-then-unit-signed : goal.returns-then-unit-signed
returns-then-unit-signed c =
    let seq : c.signed.result.now.unit.seq ≡ seq_of (unit_at c.args.dag.now c.args.tip.0) = ap (λ (s : SignedUnit). s.unit.seq) (c.signed.ensures ∙ ap (λ (u : SettledUnit). u.signed) c.unit.ensures) in
    let high : seq_of (unit_at c.args.dag.now c.args.tip.0) < c.args.unit.now.seq = omega (arith, seq) in
    (λ bad. absurd cc, λ on. absurd (too_high c.args.dag.now c.recall_graph.ensures c.args.tip.0 c.requires c.args.unit.now high on))

pub returns : goal.returns
returns c =
    let found = c.unit_on_lane-found.result.0 in
    let is : (unit_at c.args.dag.now found).signed.unit ≡ c.signed-2.result.now.unit = ap (λ (s : SignedUnit). s.unit) (sym (c.signed-2.ensures ∙ ap (λ (u : SettledUnit). u.signed) c.unit-2.ensures)) in (
      λ t. found_is c.args.dag.now c.recall_graph.ensures c.args.tip.0 c.requires c.args.unit.now found c.unit_on_lane-found.ensures (is ∙ c.is_same_unit.ensures.same.0 t),
      λ on. c.is_same_unit.ensures.same.1 (sym is ∙ only_found c.args.dag.now c.recall_graph.ensures c.args.tip.0 c.requires c.args.unit.now found c.unit_on_lane-found.ensures on),
    )
