use Rattle.std.specs.Prelude.{string_bytes}
use Rattle.hw_commands.specs.Asked.{asked}
use Rattle.hw_commands.proofs.CommandLaws.{told_request, untold_request}
use Rattle.hw_commands.proofs.command.command_of.Goals as goal

pub returns-then-not-are_words-clause-asked : goal.returns-then-not-are_words-clause-asked
returns-then-not-are_words-clause-asked c = untold_request string_bytes c.args.words.now c.as_slice-words.result.now c.are_words.result c.as_slice-words.ensures c.are_words.ensures c.if-not-are_words.true

pub returns-clause-asked : goal.returns-clause-asked
returns-clause-asked c =
    told_request string_bytes c.args.words.now c.as_slice-words.result.now c.in_ok-command.words.now c.in_ok-command.command.now c.as_str.result.now c.are_words.result (asked c.of_words.result)
    c.as_slice-words.ensures c.are_words.ensures c.if-not-are_words.false c.in_ok-command.ensures.cases.0 c.as_str.ensures.value c.of_words.ensures.asked
