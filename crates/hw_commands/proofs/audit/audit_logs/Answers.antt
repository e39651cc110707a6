use Rattle.std.proofs.Common.{None, refl, ◌∙◌}
use Rattle.hw_replay.specs.Replay.{taken_in}
use Rattle.hw_audit.proofs.TwinLaws.{ok_so}
use Rattle.hw_commands.proofs.CauseLaws.{fault_then, files_then, read_about}
use Rattle.hw_commands.proofs.AuditLaws.{logs_ok, logs_not}
use Rattle.hw_commands.proofs.DueLaws.{left_due, right_due, due_fails}
use Rattle.hw_commands.proofs.FileLaws.{took_file, replayed}
use Rattle.hw_commands.proofs.audit.audit_logs.Goals as goal

pub returns-in-Ok-clause-said : goal.returns-in-Ok-clause-said
returns-in-Ok-clause-said g c = λ tells.
    ok_so c.audit_against-ended.result (logs_ok (g.F.Files.held c.args.files.now) _ c.args.left.now c.args.right.now c.in-Ok.replay c.audit_against-ended.result c.in-Ok.ensures.files (c.in-Ok.ensures.said tells) (c.audit_against-ended.ensures.audited tells)) (λ e is. is.0)

pub returns-in-Ok-clause-conflict : goal.returns-in-Ok-clause-conflict
returns-in-Ok-clause-conflict g c = λ tells.
    ok_so c.audit_against-ended.result (logs_ok (g.F.Files.held c.args.files.now) _ c.args.left.now c.args.right.now c.in-Ok.replay c.audit_against-ended.result c.in-Ok.ensures.files (c.in-Ok.ensures.said tells) (c.audit_against-ended.ensures.audited tells)) (λ e is. is.1)

pub returns-in-Ok-clause-status : goal.returns-in-Ok-clause-status
returns-in-Ok-clause-status g c = c.audit_against-ended.ensures.status

pub returns-in-Ok-clause-fault : goal.returns-in-Ok-clause-fault
returns-in-Ok-clause-fault g c = fault_then _ _ _ c.audit_against-ended.result c.in-Ok.ensures.cause.counted c.audit_against-ended.ensures.fault

pub returns-in-Ok-clause-files : goal.returns-in-Ok-clause-files
returns-in-Ok-clause-files g c = files_then _ _ _ c.in-Ok.ensures.files c.audit_against-ended.ensures.files

pub returns-in-Ok-clause-appends : goal.returns-in-Ok-clause-appends
returns-in-Ok-clause-appends g c = c.audit_against-ended.ensures.appends ∙ c.in-Ok.ensures.appends

pub returns-in-Err-clause-said : goal.returns-in-Err-clause-said
returns-in-Err-clause-said g c = λ tells. ok_so c.stopped.result (logs_not (g.F.Files.held c.args.files.now) c.args.left.now c.args.right.now c.in-Err.fault c.stopped.result (c.in-Err.ensures.said tells) c.stopped.ensures.said) (λ e is. is.0)

pub returns-in-Err-clause-conflict : goal.returns-in-Err-clause-conflict
returns-in-Err-clause-conflict g c = λ tells. ok_so c.stopped.result (logs_not (g.F.Files.held c.args.files.now) c.args.left.now c.args.right.now c.in-Err.fault c.stopped.result (c.in-Err.ensures.said tells) c.stopped.ensures.said) (λ e is. is.1)

pub returns-in-Err-clause-fault : goal.returns-in-Err-clause-fault
returns-in-Err-clause-fault g c = record { later = c.in-Err.ensures.cause.later; counted = c.stopped.ensures.cause _ _ c.in-Err.ensures.cause.counted }

pub returns-in-Ok-clause-about : goal.returns-in-Ok-clause-about
returns-in-Ok-clause-about g c = λ tells.
    let held = g.F.Files.held c.args.files.now in
    let left = c.args.left.now in
    let replayed = replayed held None left (taken_in c.in-Ok.replay) (took_file None (held left) c.in-Ok.replay (c.in-Ok.ensures.said tells)) in
    due_fails _ held c.args.right.now _ _ _ _ c.audit_against-ended.result (right_due held left c.args.right.now (taken_in c.in-Ok.replay) replayed) (c.in-Ok.ensures.files c.args.right.now) (c.in-Ok.ensures.about tells) (c.audit_against-ended.ensures.about tells)

pub returns-in-Err-clause-about : goal.returns-in-Err-clause-about
returns-in-Err-clause-about g c = λ tells.
    let held = g.F.Files.held c.args.files.now in
    due_fails _ held c.args.left.now _ _ _ _ c.stopped.result (left_due held c.args.left.now c.args.right.now) refl refl (read_about (held c.args.left.now) c.args.left.now _ _ c.in-Err.fault c.stopped.result (c.in-Err.ensures.about tells) c.stopped.ensures.read)
