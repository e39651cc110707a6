use Rattle.std.proofs.Common.{sym, ap, ◌∙◌}
use Rattle.std.specs.Prelude.{◌==◌}
use Rattle.hw_types.specs.declared.unit.SignedUnit.{SignedUnit}
use Rattle.hw_types.specs.declared.unit.WireUnit.{WireUnit}
use Rattle.hw_types.specs.Graph.{Node}
use Rattle.hw_dag.specs.Dag.{unit_at}
use Rattle.hw_rules.proofs.CaseLaws.{before_some}
use Rattle.hw_rules.proofs.rounds.repeats_time.Goals as goal

pub returns-in-Some : goal.returns-in-Some
returns-in-Some c =
    ap (λ (w : WireUnit). w.time == c.signed.result.now.unit.time) c.wire_unit.ensures ∙ ap (λ (s : SignedUnit). (unit_at c.args.dag.now c.in-Some.no.0).signed.unit.time == s.unit.time) c.signed.ensures
    ∙ sym (before_some c.args.dag.now c.args.prepared.now c.requires (λ (q : Node). q.unit.time == c.args.prepared.now.signed.unit.time) c.in-Some.no (sym c.previous.ensures ∙ c.in-Some.is))
