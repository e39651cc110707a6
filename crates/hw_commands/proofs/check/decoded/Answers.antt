use Rattle.std.proofs.Common.{ap, ◌∙◌}
use Rattle.hw_commands.specs.declared.ended.Ended.{Ended}
use Rattle.hw_commands.proofs.FaultLaws.{input_status}
use Rattle.hw_commands.proofs.CheckRunLaws.{misread_said}
use Rattle.hw_commands.proofs.check.decoded.Goals as goal

pub returns-in_ok-undecoded-in-Err : goal.returns-in_ok-undecoded-in-Err
returns-in_ok-undecoded-in-Err c =
    let wrote = c.in_ok-undecoded-in-Err.ensures.said in
    record {
      said = misread_said c.args.file.now c.args.bytes.now c.in-Err.error c.in_ok-undecoded-in-Err.field-0 c.in-Err.ensures.error wrote;
      fits = tt;
      status = ap (λ (e : Ended). e.status) wrote.0 ∙ input_status c.args.file.now _;
      fault = tt;
    }
