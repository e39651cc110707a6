use Rattle.std.proofs.Common.{Some, sym, ap, ◌∙◌}
use Rattle.hw_types.specs.declared.unit.Evidence.{Evidence}
use Rattle.hw_needs.proofs.NeedLaws.{journal_is, settled_is, clear_none, none_is, ok_so}
use Rattle.hw_needs.proofs.PairLaws.{clear_kept, faulty_low, on_ok_said}
use Rattle.hw_needs.proofs.evidence.evidence_with.Goals as goal

pub returns-in_ok-copy-in-Some-clause-evidence : goal.returns-in_ok-copy-in-Some-clause-evidence
returns-in_ok-copy-in-Some-clause-evidence c =
    ap (λ (e : Evidence). Some e) c.in_ok-copy-in-Some.ensures ∙ journal_is c.args.core.now c.args.validator c.in-Some.evidence.now (sym c.in-Some.ensures.evidence)

pub returns-in_ok-copy-in-Some-clause-none : goal.returns-in_ok-copy-in-Some-clause-none
returns-in_ok-copy-in-Some-clause-none c =
    none_is c.args.core.now c.state-state.ensures.pairs c.args.validator (Some c.in_ok-copy-in-Some.field-0)
    (ap (λ (e : Evidence). Some e) c.in_ok-copy-in-Some.ensures ∙ journal_is c.args.core.now c.args.validator c.in-Some.evidence.now (sym c.in-Some.ensures.evidence))

pub returns-in_ok-names-in-None-clause-evidence : goal.returns-in_ok-names-in-None-clause-evidence
returns-in_ok-names-in-None-clause-evidence c = ok_so c.named_evidence.result (c.named_evidence.ensures.evidence c.args.validator c.in_ok-names-in-None.ensures.names) (λ o is. is ∙ settled_is c.args.core.now c.args.validator (sym c.in-None.ensures.evidence))

pub returns-in_ok-names-in-None-clause-none : goal.returns-in_ok-names-in-None-clause-none
returns-in_ok-names-in-None-clause-none c =
    ok_so c.named_evidence.result (c.named_evidence.ensures.evidence c.args.validator c.in_ok-names-in-None.ensures.names) (λ o is. none_is c.args.core.now c.state-state.ensures.pairs c.args.validator o (is ∙ settled_is c.args.core.now c.args.validator (sym c.in-None.ensures.evidence)))

pub returns-else-is_faulty-clause-evidence : goal.returns-else-is_faulty-clause-evidence
returns-else-is_faulty-clause-evidence c = sym (clear_none c.args.core.now c.state-state.ensures.pairs c.args.validator (sym c.is_faulty.ensures ∙ c.if-is_faulty.false))

pub returns-in_ok-names-in-None-clause-kept : goal.returns-in_ok-names-in-None-clause-kept
returns-in_ok-names-in-None-clause-kept c =
    on_ok_said c.named_evidence.result (λ none. c.in_ok-names-in-None.ensures.kept (faulty_low c.args.core.now c.args.validator (sym c.is_faulty.ensures ∙ c.if-is_faulty.true)))

pub returns-else-is_faulty-clause-kept : goal.returns-else-is_faulty-clause-kept
returns-else-is_faulty-clause-kept c =
    λ none. clear_kept c.args.core.now c.args.validator c.args.pairs.now c.requires.pairs (sym c.is_faulty.ensures ∙ c.if-is_faulty.false)
