use Rattle.std.proofs.Common.{◌≡◌, sym, ap, ◌∙◌}
use Rattle.std.specs.Prelude.{string_bytes}
use Rattle.hw_text.specs.Numbers.{number_below}
use Rattle.hw_commands.specs.Asked.{asked}
use Rattle.hw_commands.proofs.CommandLaws.{numbered_logs}
use Rattle.hw_commands.proofs.command.era_audit.Goals as goal

pub returns-clause-asked : goal.returns-clause-asked
returns-clause-asked c =
    let same : c.as_bytes.result.now ≡ string_bytes c.in_ok-number.number.now = c.as_bytes.ensures.value in
    numbered_logs string_bytes c.args.words.now c.in_ok-number.logs.now c.in_ok-left.left.now c.in_ok-left.right.now c.in_ok-number.number.now c.in_ok-count.count (asked c.two_nodes.result)
    c.in_ok-number.ensures.cases.0 (ap (number_below 65) (sym same) ∙ sym c.in_ok-count.ensures.number) c.in_ok-left.ensures.cases.1 c.in_ok-left.ensures.cases.2 c.two_nodes.ensures.asked
