use Rattle.std.proofs.Common.{◌≡◌, ℕ, List, ap, ◌∙◌}
use Rattle.hw_honest.specs.Generated.{Totals}
use Rattle.hw_cluster.specs.Numbers.{totals_of}
use Rattle.hw_cluster.specs.Worked.{gen_totals}
use Rattle.hw_cluster.proofs.WorkedLaws.{totals_are}
use Rattle.hw_commands.specs.declared.ended.Ended.{Ended}
use Rattle.hw_commands.specs.Workloads.{gen_line}
use Rattle.hw_commands.proofs.workloads.generated.Goals as goal

-- the whole text, with status 0
abbrev done_with : List ℕ → Ended
done_with text = record { status = 0; text = text }

pub returns-clause-said : goal.returns-clause-said
returns-clause-said c =
    let n = totals_of c.in_ok-summary.summary in
    let are : n ≡ gen_totals c.args.number c.args.rounds = totals_are c.args.number c.args.rounds n c.in_ok-summary.ensures in
    ap done_with (c.in_ok-text.ensures ∙ ap (λ (m : Totals). gen_line c.args.rounds m) are)
