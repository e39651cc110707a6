use Rattle.std.proofs.Common.{◌≤◌, length, ap, sym, ◌∙◌, arith}
use Rattle.hw_types.specs.declared.config.Config.{Config}
use Rattle.hw_core.specs.Decided.{decided_in}
use Rattle.hw_eras.proofs.EndedLaws.{end_block, none_at_end}
use Rattle.hw_eras.proofs.opening.last_block.Goals as goal

pub returns-then-end-decision_count-clause-some : goal.returns-then-end-decision_count-clause-some
returns-then-end-decision_count-clause-some c =
    let ends = ap (λ (k : Config). k.end) (sym (c.config.ensures.config ∙ c.state.ensures.config)) ∙ c.in_ok-end.was in
    end_block c.args.core.now c.requires c.in_ok-end.end c.decision.result.now ends (sym c.decision.ensures)

pub returns-else-end-decision_count-clause-none : goal.returns-else-end-decision_count-clause-none
returns-else-end-decision_count-clause-none c =
    let ends = ap (λ (k : Config). k.end) (sym (c.config.ensures.config ∙ c.state.ensures.config)) ∙ c.in_ok-end.was in
    let few : length (decided_in c.args.core.now) ≤ c.in_ok-end.end = (let count = c.decision_count.ensures in let le = c.if-end-decision_count.false in omega arith) in
    λ _. none_at_end c.args.core.now c.requires c.in_ok-end.end ends few
