use Rattle.std.proofs.Common.{inl, inr, ap, ◌∙◌}
use Rattle.hw_commands.specs.declared.ended.Ended.{Ended}
use Rattle.hw_commands.proofs.FaultLaws.{input_status, of_bytes, not_outside, leaves_count}
use Rattle.hw_commands.proofs.faults.unread.Goals as goal

pub returns-in_ok-bad_log-in_default : goal.returns-in_ok-bad_log-in_default
returns-in_ok-bad_log-in_default c =
    let wrote = c.in_ok-bad_log-in_default.ensures in
    record {
      said = (wrote ∙ of_bytes c.args.name.now c.args.error c.in_default.not-ReadFault c.in_default.not-OutOfMemory, inr (inl (ap (λ (e : Ended). e.status) wrote ∙ input_status c.args.name.now _)), not_outside c.args.error c.in_default.not-ReadFault c.in_default.not-OutOfMemory);
      cause = λ before now. leaves_count before now c.args.error c.in_default.not-ReadFault;
      read = tt;
      append = tt;
    }
