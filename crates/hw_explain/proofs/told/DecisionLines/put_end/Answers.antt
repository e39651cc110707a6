use Rattle.std.proofs.Common.{◌≡◌, ◌++◌, ap, ◌∙◌}
use Rattle.hw_types.specs.Real.{received_in}
use Rattle.hw_explain.specs.declared.told.DecisionLines.{DecisionLines}
use Rattle.hw_explain.specs.Report.{exceeded_line, exceeded_in}
use Rattle.hw_explain.specs.Explain.{explained_in}
use Rattle.hw_explain.proofs.CommitteeLaws.{on_ok}
use Rattle.hw_explain.proofs.ToldLaws.{told_some, told_none}
use Rattle.hw_explain.proofs.told.DecisionLines.put_end.Goals as goal
use Rattle.hw_explain.proofs.told.DecisionLines.put_end.Goals.{then-self-eq0+in_ok-put_word, else-self-eq0}

pub returns : goal.returns
returns c =
    let core = c.args.core.now in
    let lines : c.if-self-eq0.self.text ++ exceeded_line (exceeded_in core.config (received_in core)) ≡ explained_in core =
    elim c.if-self-eq0.branch [
      | then-self-eq0+in_ok-put_word w ↦ ap (λ (t : DecisionLines). t.text ++ exceeded_line (exceeded_in core.config (received_in core))) w.self-is ∙ ap (λ t. t ++ exceeded_line (exceeded_in core.config (received_in core))) w.in_ok-put_word.ensures.ok ∙ told_none core c.args.self.now c.requires w.if-self-eq0.true
      | else-self-eq0 w ↦ ap (λ (t : DecisionLines). t.text ++ exceeded_line (exceeded_in core.config (received_in core))) w.self-is ∙ told_some core c.args.self.now c.requires w.if-self-eq0.false
    ] in
    on_ok c.put_exceeded.result (λ wrote. wrote ∙ ap (λ (o : _). c.if-self-eq0.self.text ++ exceeded_line o) c.exceeded.ensures ∙ lines) c.put_exceeded.ensures
