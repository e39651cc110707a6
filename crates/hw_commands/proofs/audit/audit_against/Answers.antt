use Rattle.hw_commands.proofs.CauseLaws.{no_fault, no_read, read_about}
use Rattle.hw_commands.proofs.AuditLaws.{handed_on, audit_ok, audit_not}
use Rattle.hw_commands.proofs.audit.audit_against.Goals as goal

pub returns-in-Ok-clause-audited : goal.returns-in-Ok-clause-audited
returns-in-Ok-clause-audited g c = λ tells bytes taken is core.
    audit_ok (g.F.Files.held c.args.files.now) c.args.left.now c.args.right.now bytes taken is core c.in-Ok.replay c.or_no_memory-ended.result (c.in-Ok.ensures.said tells)
    (handed_on _ c.audited.result c.or_no_memory-ended.result c.audited.ensures.told c.or_no_memory-ended.ensures.ended)

pub returns-in-Ok-clause-status : goal.returns-in-Ok-clause-status
returns-in-Ok-clause-status g c = handed_on _ c.audited.result c.or_no_memory-ended.result c.audited.ensures.status c.or_no_memory-ended.ensures.ended

pub returns-in-Ok-clause-fault : goal.returns-in-Ok-clause-fault
returns-in-Ok-clause-fault g c = no_fault _ _ c.or_no_memory-ended.result c.in-Ok.ensures.cause.later c.in-Ok.ensures.cause.counted c.or_no_memory-ended.ensures.fault

pub returns-in-Ok-clause-files : goal.returns-in-Ok-clause-files
returns-in-Ok-clause-files g c = c.in-Ok.ensures.files

pub returns-in-Ok-clause-appends : goal.returns-in-Ok-clause-appends
returns-in-Ok-clause-appends g c = c.in-Ok.ensures.appends

pub returns-in-Err-clause-audited : goal.returns-in-Err-clause-audited
returns-in-Err-clause-audited g c = λ tells bytes taken is core.
    audit_not (g.F.Files.held c.args.files.now) c.args.left.now c.args.right.now bytes taken is core c.in-Err.fault c.stopped.result (c.in-Err.ensures.said tells) c.stopped.ensures.said

pub returns-in-Err-clause-fault : goal.returns-in-Err-clause-fault
returns-in-Err-clause-fault g c = record { later = c.in-Err.ensures.cause.later; counted = c.stopped.ensures.cause _ _ c.in-Err.ensures.cause.counted }

pub returns-in-Ok-clause-about : goal.returns-in-Ok-clause-about
returns-in-Ok-clause-about g c = λ tells. no_read _ c.or_no_memory-ended.result c.or_no_memory-ended.ensures.fault

pub returns-in-Err-clause-about : goal.returns-in-Err-clause-about
returns-in-Err-clause-about g c = λ tells. read_about (g.F.Files.held c.args.files.now c.args.right.now) c.args.right.now _ _ c.in-Err.fault c.stopped.result (c.in-Err.ensures.about tells) c.stopped.ensures.read
