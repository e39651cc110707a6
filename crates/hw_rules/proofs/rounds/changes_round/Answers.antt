use Rattle.std.proofs.Common.{not, sym, ap, ◌∙◌}
use Rattle.hw_types.specs.declared.unit.SignedUnit.{SignedUnit}
use Rattle.hw_types.specs.declared.unit.WireUnit.{WireUnit}
use Rattle.hw_types.specs.Graph.{Node}
use Rattle.hw_types.specs.Rounds.{changes_lawfully}
use Rattle.hw_dag.specs.Dag.{unit_at}
use Rattle.hw_rules.proofs.CaseLaws.{before_some}
use Rattle.hw_rules.proofs.rounds.changes_round.Goals as goal

pub returns : goal.returns
returns c =
    let u = c.args.prepared.now.signed.unit in
    let before = (unit_at c.args.dag.now c.in-Some.no.0).signed.unit in
    ap not (c.may_follow.ensures ∙ ap (λ (w : WireUnit). changes_lawfully w.time w.exponent c.signed.result.now.unit.time c.signed.result.now.unit.exponent) c.wire_unit-before.ensures
    ∙ ap (λ (s : SignedUnit). changes_lawfully before.time before.exponent s.unit.time s.unit.exponent) c.signed.ensures)
    ∙ sym (before_some c.args.dag.now c.args.prepared.now c.requires.case (λ (q : Node). not (changes_lawfully q.unit.time q.unit.exponent u.time u.exponent)) c.in-Some.no (sym c.previous.ensures ∙ c.in-Some.is))
