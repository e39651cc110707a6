use Rattle.std.proofs.Common.{refl, sym, ap}
use Rattle.std.specs.Prelude.{map, string_bytes}
use Rattle.hw_eras.specs.Audits.{logs_audited}
use Rattle.hw_eras.specs.Turns.{HasTurnIn}
use Rattle.hw_eras.proofs.TurnLaws.{at_then}
use Rattle.hw_commands.specs.declared.ended.Ended.{Ended}
use Rattle.hw_commands.specs.Eras.{era_audit_ended, IsEraConflictOf}
use Rattle.hw_commands.specs.Program.{era_audit_said}
use Rattle.hw_commands.specs.Due.{IsDue}
use Rattle.hw_commands.proofs.EraDueLaws.{era_audit_due}
use Rattle.hw_commands.proofs.EraLaws.{ends_so, stopped_untold, era_conflict}
use Rattle.hw_commands.proofs.eras.audit_eras.Goals as goal

pub returns-in-Ok-clause-said : goal.returns-in-Ok-clause-said
returns-in-Ok-clause-said g c = λ tells. sym (ap era_audit_ended (c.in-Ok.ensures.said tells))

pub returns-in-Ok-clause-conflict : goal.returns-in-Ok-clause-conflict
returns-in-Ok-clause-conflict g c = λ tells three.
    era_conflict (g.F.Files.held c.args.files.now) (map string_bytes c.args.left.now) (map string_bytes c.args.right.now) c.in-Ok.audit (c.in-Ok.ensures.audit tells) three

pub returns-in-Err-clause-said : goal.returns-in-Err-clause-said
returns-in-Err-clause-said g c = λ tells.
    ends_so era_audit_ended (λ s. refl) (logs_audited (g.F.Files.held c.args.files.now) (map string_bytes c.args.left.now) (map string_bytes c.args.right.now)) c.in-Err.stop c.logs_stopped.result (c.in-Err.ensures.said tells) c.logs_stopped.ensures.said

pub returns-in-Err-clause-conflict : goal.returns-in-Err-clause-conflict
returns-in-Err-clause-conflict g c = λ tells.
    stopped_untold (λ (e : Ended). IsEraConflictOf (g.F.Files.held c.args.files.now) (map string_bytes c.args.left.now) (map string_bytes c.args.right.now) e.text) c.logs_stopped.result c.logs_stopped.ensures.status

pub returns-in-Err-clause-fault : goal.returns-in-Err-clause-fault
returns-in-Err-clause-fault g c = record { later = c.in-Err.ensures.cause.later; counted = c.logs_stopped.ensures.cause _ _ c.in-Err.ensures.cause.counted }

pub returns-in-Err-clause-about : goal.returns-in-Err-clause-about
returns-in-Err-clause-about g c = λ tells.
    let held = g.F.Files.held c.args.files.now in
    let left = map string_bytes c.args.left.now in
    let right = map string_bytes c.args.right.now in
    c.logs_stopped.ensures.about (λ h. era_audit_said h left right) held _ _
    (at_then (HasTurnIn held left right) (IsDue (λ h. era_audit_said h left right) held) c.in-Err.stop (era_audit_due held left right) (c.in-Err.ensures.turn tells)) (c.in-Err.ensures.about tells)
