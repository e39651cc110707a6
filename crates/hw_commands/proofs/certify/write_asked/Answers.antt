use Rattle.std.proofs.Common.{◌≡◌}
use Rattle.hw_light.specs.Asked.{told_in}
use Rattle.hw_commands.specs.CertificateEnds.{certify_ended}
use Rattle.hw_commands.proofs.AuditLaws.{handed_on}
use Rattle.hw_commands.proofs.CertifyLaws.{written}
use Rattle.hw_commands.proofs.certify.write_asked.Goals as goal

pub returns-clause-files : goal.returns-clause-files
returns-clause-files g c = λ tells.
    written c.args.new.now _ _ c.in_ok-put_made.field-0 c.args.asked.now c.or_no_memory.result (c.in_ok-put_made.ensures.put tells)
    (handed_on (λ e. e ≡ certify_ended (told_in c.args.asked.now)) c.asked_ended.result c.or_no_memory.result c.asked_ended.ensures c.or_no_memory.ensures.ended) c.or_no_memory.ensures.fault
