use Rattle.std.proofs.Common.{ap, ◌++◌, ◌∙◌}
use Rattle.hw_types.specs.Real.{received_in}
use Rattle.hw_explain.specs.Explain.{explained_line}
use Rattle.hw_explain.proofs.ToldLaws.{now_at, line_more}
use Rattle.hw_explain.proofs.CommitteeLaws.{on_ok}
use Rattle.hw_explain.proofs.told.DecisionLines.put.Goals as goal

pub put_line-requires : goal.put_line-requires
put_line-requires c = now_at c.args.core.now c.args.index c.decision-decision.result.now c.requires.is_new c.decision-decision.ensures

pub returns-clause-lines : goal.returns-clause-lines
returns-clause-lines c =
    let core = c.args.core.now in
    let d = c.decision-decision.result.now in
    on_ok c.put_line.result
    (λ wrote. record {
      lines = wrote ∙ ap (λ t. t ++ explained_line core.config (received_in core) d) c.requires.lines.lines
          ∙ line_more core c.args.index d (now_at core c.args.index d c.requires.is_new c.decision-decision.ensures) c.decision-decision.ensures;
    })
    c.put_line.ensures
