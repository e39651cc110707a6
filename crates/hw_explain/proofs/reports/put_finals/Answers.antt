use Rattle.std.proofs.Common.{ap, ◌++◌, ◌∙◌}
use Rattle.std.proofs.lemmas.List.{append_assoc}
use Rattle.std.specs.List.{flat_map}
use Rattle.std.specs.Prelude.{take}
use Rattle.hw_core.specs.Decided.{decided_in}
use Rattle.hw_explain.specs.Report.{final_line}
use Rattle.hw_explain.proofs.ReportLaws.{one_more}
use Rattle.hw_explain.proofs.reports.put_finals.Goals as goal

pub loop-index-preserved : goal.loop-index-preserved
loop-index-preserved c =
    let l = c.loop-index in
    let lines = flat_map final_line (take l.index (decided_in c.args.core.now)) in
    c.in_ok-put_final.ensures ∙ ap (λ t. t ++ final_line c.decision.result.now) l.invariant
    ∙ append_assoc c.args.text.now lines (final_line c.decision.result.now)
    ∙ ap (λ t. c.args.text.now ++ t) (one_more final_line (decided_in c.args.core.now) l.index c.decision.result.now c.decision.ensures)
