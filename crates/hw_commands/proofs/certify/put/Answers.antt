use Rattle.hw_commands.specs.declared.ended.RunFault.TheVariants.{Append, OutOfMemory}
use Rattle.hw_commands.proofs.CertifyLaws.{not_appended}
use Rattle.hw_commands.proofs.certify.put.Goals as goal

pub returns-in-Err-Failed-clause-put : goal.returns-in-Err-Failed-clause-put
returns-in-Err-Failed-clause-put g c = λ tells.
    not_appended c.args.certificate.now c.in_ok-bytes.bytes c.as_slice.result.now c.args.new.now c.in-Err-Failed.field-0 Append _ _ c.in_ok-bytes.ensures c.as_slice.ensures (c.in-Err-Failed.ensures.bytes tells)

pub returns-clause-put : goal.returns-clause-put
returns-clause-put g c = λ tells.
    not_appended c.args.certificate.now c.in_ok-bytes.bytes c.as_slice.result.now c.args.new.now c.in-Err-OutOfMemory.field-0 OutOfMemory _ _ c.in_ok-bytes.ensures c.as_slice.ensures (c.in-Err-OutOfMemory.ensures.bytes tells)
