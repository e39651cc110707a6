use Rattle.std.proofs.Common.{not, sym, ap, ◌∙◌}
use Rattle.std.specs.Prelude.{◌+◌, ◌==◌}
use Rattle.hw_types.specs.declared.unit.SignedUnit.{SignedUnit}
use Rattle.hw_types.specs.declared.unit.WireUnit.{WireUnit}
use Rattle.hw_types.specs.Graph.{Node}
use Rattle.hw_rules.proofs.CaseLaws.{before_some}
use Rattle.hw_rules.proofs.citations.skips_number.Goals as goal

pub returns-in-Some : goal.returns-in-Some
returns-in-Some c =
    ap not (c.is_next.ensures ∙ ap (λ (s : SignedUnit). s.unit.seq == c.wire_unit.result.now.seq + 1) c.signed.ensures ∙ ap (λ (w : WireUnit). c.args.prepared.now.signed.unit.seq == w.seq + 1) c.wire_unit.ensures)
    ∙ sym (before_some c.args.dag.now c.args.prepared.now c.requires (λ (q : Node). not (c.args.prepared.now.signed.unit.seq == q.unit.seq + 1)) c.in-Some.no (sym c.previous.ensures ∙ c.in-Some.is))
