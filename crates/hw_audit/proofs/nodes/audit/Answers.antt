use Rattle.std.proofs.Common.{sym, ◌∙◌}
use Rattle.hw_core.specs.Decided.{decided_in}
use Rattle.hw_audit.proofs.TopLaws.{accountable}
use Rattle.hw_audit.proofs.nodes.audit.Goals as goal

pub returns-clause-accountable : goal.returns-clause-accountable
returns-clause-accountable c =
    accountable c.args.left.now c.args.right.now c.in_ok-verdict.verdict
    (sym (c.config.ensures.config ∙ c.state.ensures.config) ∙ c.is_same_config.ensures.0 c.if-not-is_same_config.false ∙ c.config-2.ensures.config ∙ c.state-2.ensures.config)
    (c.in_ok-verdict.ensures (decided_in c.args.left.now) (decided_in c.args.right.now) (c.deref.ensures.value ∙ c.in_ok-left_chain.ensures) (c.deref-2.ensures.value ∙ c.in_ok-right_chain.ensures)).is_verdict
    c.state.ensures.pairs c.state-2.ensures.pairs
