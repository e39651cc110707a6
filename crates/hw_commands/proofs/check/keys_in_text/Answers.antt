use Rattle.std.proofs.Common.{ap, ◌∙◌}
use Rattle.hw_commands.specs.declared.ended.Ended.{Ended}
use Rattle.hw_commands.proofs.FaultLaws.{input_status}
use Rattle.hw_commands.proofs.check.keys_in_text.Goals as goal

pub returns-in_ok-bad_keys-in-Err-At-clause-status : goal.returns-in_ok-bad_keys-in-Err-At-clause-status
returns-in_ok-bad_keys-in-Err-At-clause-status c = ap (λ (e : Ended). e.status) c.in_ok-bad_keys-in-Err-At.ensures ∙ input_status c.args.name.now _
