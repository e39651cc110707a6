use Rattle.std.proofs.Common.{inl, inr, ap, ◌∙◌}
use Rattle.hw_commands.specs.declared.ended.Ended.{Ended}
use Rattle.hw_commands.proofs.FaultLaws.{input_status}
use Rattle.hw_commands.proofs.script.scripted.Goals as goal

pub returns-in_ok-bad_input-in-Err-Line-clause-status : goal.returns-in_ok-bad_input-in-Err-Line-clause-status
returns-in_ok-bad_input-in-Err-Line-clause-status c = inr (inl (ap (λ (e : Ended). e.status) c.in_ok-bad_input-in-Err-Line.ensures ∙ input_status c.args.name.now _))
