use Rattle.hw_script.proofs.PrintLaws.{printed_is, printed_there, stopped_is, stopped_there}
use Rattle.hw_script.proofs.laws.output_is_printed.Goals as goal

pub returns : goal.returns
returns c = record { printed = λ text output. (printed_is text output, printed_there text output); wrong = λ text n. (stopped_is text n, stopped_there text n) }
