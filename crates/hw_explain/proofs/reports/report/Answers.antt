use Rattle.std.proofs.Common.{◌≡◌, ◌++◌, ◌∙◌}
use Rattle.std.specs.List.{flat_map}
use Rattle.hw_core.specs.Decided.{decided_in}
use Rattle.hw_types.specs.Real.{setting_of, received_in}
use Rattle.hw_explain.specs.Report.{counts_line, faulty_line, fork_line, final_line, exceeded_line, counts_of, faulty_in, fork_in}
use Rattle.hw_explain.proofs.ReportLaws.{report_parts}
use Rattle.hw_explain.proofs.reports.report.Goals as goal

pub returns : goal.returns
returns c =
    let core = c.args.core.now in
    let received = received_in core in
    let counts : c.put_counts.new.out ≡ counts_line (counts_of core.config received c.args.refused c.args.repeats) =
    c.in_ok-put_counts.ensures ∙ (λ i. c.new-text.ensures i ++ counts_line (c.counts.ensures i)) in
    let faulty : c.put_faulty.new.out ≡ counts_line (counts_of core.config received c.args.refused c.args.repeats) ++ faulty_line (faulty_in core.config received) =
    c.in_ok-put_faulty.ensures ∙ (λ i. counts i ++ faulty_line ((c.as_slice.ensures.value ∙ c.in_ok-faulty.ensures) i)) in
    let fork : c.put_fork.new.out ≡ counts_line (counts_of core.config received c.args.refused c.args.repeats) ++ faulty_line (faulty_in core.config received) ++ fork_line (fork_in core.config received) =
    c.in_ok-put_fork.ensures ∙ (λ i. faulty i ++ fork_line (c.fork.ensures i)) in
    let finals : c.put_finals.new.text ≡ counts_line (counts_of core.config received c.args.refused c.args.repeats) ++ faulty_line (faulty_in core.config received) ++ fork_line (fork_in core.config received) ++ flat_map final_line (decided_in core) =
    c.in_ok-put_finals.ensures ∙ (λ i. fork i ++ flat_map final_line (decided_in core)) in
    c.in_ok-put_exceeded.ensures ∙ (λ i. finals i ++ exceeded_line (c.exceeded.ensures i)) ∙ report_parts (setting_of core.config) core.journal c.args.refused c.args.repeats
