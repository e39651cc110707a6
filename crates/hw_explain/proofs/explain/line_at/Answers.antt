use Rattle.std.proofs.Common.{sym, ◌∙◌}
use Rattle.hw_core.proofs.DecidedLaws.{found_at}
use Rattle.hw_core.specs.Decided.{decided_in}
use Rattle.hw_explain.proofs.explain.line_at.Goals as goal

pub put_line-requires : goal.put_line-requires
put_line-requires c =
    let same = c.if-decision-journal_count.false in
    let count = c.journal_count.ensures in
    record { decided = found_at (decided_in c.args.core.now) c.args.index c.decision-decision.result.now (sym c.decision-decision.ensures); at = same ∙ count }
