use Rattle.std.proofs.Common.{◌++◌, ap, ◌∙◌}
use Rattle.hw_types.specs.Real.{received_in}
use Rattle.hw_explain.proofs.CommitteeLaws.{on_ok}
use Rattle.hw_explain.proofs.ToldLaws.{now_at}
use Rattle.hw_script.specs.Shows.{named_line}
use Rattle.hw_script.proofs.ToldLaws.{line_more}
use Rattle.hw_script.proofs.finals.Finals.put.Goals as goal

pub put_named-requires : goal.put_named-requires
put_named-requires c = now_at c.args.core.now c.args.index c.decision-decision.result.now c.requires.is_new c.decision-decision.ensures

pub returns-clause-lines : goal.returns-clause-lines
returns-clause-lines c =
    let names = c.args.names.now in
    let core = c.args.core.now in
    let d = c.decision-decision.result.now in
    on_ok c.put_named.result
    (λ wrote. wrote ∙ ap (λ t. t ++ named_line names core.config (received_in core) d) c.requires.lines
    ∙ line_more names core c.args.index d (now_at core c.args.index d c.requires.is_new c.decision-decision.ensures) c.decision-decision.ensures)
    c.put_named.ensures
