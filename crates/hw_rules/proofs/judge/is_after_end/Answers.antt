use Rattle.std.proofs.Common.{sym, ap, ◌∙◌}
use Rattle.std.specs.Option.{is_some}
use Rattle.hw_types.specs.declared.unit.SignedUnit.{SignedUnit}
use Rattle.hw_dag.specs.Admission.{node_prepared}
use Rattle.hw_rules.specs.Judged.{below_of}
use Rattle.hw_rules.proofs.StateLaws.{block_and, block_or_not, no_end}
use Rattle.hw_rules.proofs.judge.is_after_end.Goals as goal

pub returns-then-is_some : goal.returns-then-is_some
returns-then-is_some c =
    c.stands_at.ensures ∙ block_and c.args.config.now (below_of c.args.dag.now c.args.prepared.now) (node_prepared c.args.prepared.now) c.in-Some.end c.in-Some.is
    (ap (λ (s : SignedUnit). is_some s.unit.value) (sym c.signed.ensures) ∙ sym c.is_some.ensures ∙ c.if-is_some.true)

pub returns-else-is_some : goal.returns-else-is_some
returns-else-is_some c =
    c.if-is_some.false ∙ block_or_not c.args.config.now (below_of c.args.dag.now c.args.prepared.now) (node_prepared c.args.prepared.now)
    (ap (λ (s : SignedUnit). is_some s.unit.value) (sym c.signed.ensures) ∙ sym c.is_some.ensures ∙ c.if-is_some.false)

pub returns-in-None : goal.returns-in-None
returns-in-None c = no_end c.args.config.now (below_of c.args.dag.now c.args.prepared.now) (node_prepared c.args.prepared.now) c.in-None.is
