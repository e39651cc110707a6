use Rattle.std.proofs.Common.{refl}
use Rattle.hw_commands.proofs.AuditLaws.{handed_on}
use Rattle.hw_commands.proofs.CauseLaws.{read_about}
use Rattle.hw_commands.proofs.DueLaws.{beside_due, due_fails}
use Rattle.hw_commands.proofs.AgainstLaws.{audited_beside, stopped_beside, audited_said, audited_alike}
use Rattle.hw_commands.proofs.audit.audit_certified.Goals as goal

pub returns-in-Ok-clause-said : goal.returns-in-Ok-clause-said
returns-in-Ok-clause-said g c = λ tells.
    let held = g.F.Files.held c.args.files.now in
    audited_said held c.args.file.now c.args.certificate.now c.args.right.now c.args.log.now c.requires c.or_no_memory.result
    (audited_beside held c.args.file.now c.args.certificate.now c.args.right.now c.args.log.now c.requires c.certificate_is_in_range.ensures c.in-Ok.replay c.or_no_memory.result (c.in-Ok.ensures.said tells)
    (handed_on _ c.audited.result c.or_no_memory.result c.audited.ensures.told c.or_no_memory.ensures.ended))

pub returns-in-Ok-clause-alike : goal.returns-in-Ok-clause-alike
returns-in-Ok-clause-alike g c = λ tells.
    let held = g.F.Files.held c.args.files.now in
    audited_alike held c.args.file.now c.args.certificate.now c.args.right.now c.args.log.now c.requires c.or_no_memory.result
    (audited_beside held c.args.file.now c.args.certificate.now c.args.right.now c.args.log.now c.requires c.certificate_is_in_range.ensures c.in-Ok.replay c.or_no_memory.result (c.in-Ok.ensures.said tells)
    (handed_on _ c.audited.result c.or_no_memory.result c.audited.ensures.told c.or_no_memory.ensures.ended))

pub returns-in-Err-clause-said : goal.returns-in-Err-clause-said
returns-in-Err-clause-said g c = λ tells.
    let held = g.F.Files.held c.args.files.now in
    audited_said held c.args.file.now c.args.certificate.now c.args.right.now c.args.log.now c.requires c.not_beside.result
    (stopped_beside held c.args.file.now c.args.certificate.now c.args.right.now c.args.log.now c.requires c.in-Err.fault c.not_beside.result (c.in-Err.ensures.said tells) c.not_beside.ensures.said)

pub returns-in-Err-clause-alike : goal.returns-in-Err-clause-alike
returns-in-Err-clause-alike g c = λ tells.
    let held = g.F.Files.held c.args.files.now in
    audited_alike held c.args.file.now c.args.certificate.now c.args.right.now c.args.log.now c.requires c.not_beside.result
    (stopped_beside held c.args.file.now c.args.certificate.now c.args.right.now c.args.log.now c.requires c.in-Err.fault c.not_beside.result (c.in-Err.ensures.said tells) c.not_beside.ensures.said)

pub returns-in-Err-clause-fault : goal.returns-in-Err-clause-fault
returns-in-Err-clause-fault g c = record { later = c.in-Err.ensures.cause.later; counted = c.not_beside.ensures.cause _ _ c.in-Err.ensures.cause.counted }

pub returns-in-Err-clause-about : goal.returns-in-Err-clause-about
returns-in-Err-clause-about g c = λ tells.
    let held = g.F.Files.held c.args.files.now in
    due_fails _ held c.args.log.now _ _ _ _ c.not_beside.result (beside_due held c.args.file.now c.args.certificate.now c.args.right.now c.args.log.now) refl refl
    (read_about (held c.args.log.now) c.args.log.now _ _ c.in-Err.fault c.not_beside.result (c.in-Err.ensures.about tells) c.not_beside.ensures.read)
