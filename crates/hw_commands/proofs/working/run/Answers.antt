use Rattle.std.proofs.Common.{None, Some}
use Rattle.std.specs.Prelude.{map, string_bytes}
use Rattle.hw_commands.specs.Commands.{Audit, Check}
use Rattle.hw_commands.proofs.CommandLaws.{asked_for}
use Rattle.hw_commands.proofs.DueLaws.{asked_fails}
use Rattle.hw_commands.proofs.ShownLaws.{checked_conflict}
use Rattle.hw_commands.proofs.EraLaws.{era_conflict_told}
use Rattle.hw_commands.proofs.working.run.Goals as goal

pub returns-in-Some-Check-clause-conflict : goal.returns-in-Some-Check-clause-conflict
returns-in-Some-Check-clause-conflict g c = λ tells.
    checked_conflict c.args.words.now (g.F.Files.held c.args.files.now) c.in-Some-Check.file.now c.in-Some-Check.keys.now None c.checked.result
    (asked_for c.args.command _ _ _ c.in-Some-Check.is (rw c.in-Some-Check.is at c.in-Some-Check.field-0-is) c.requires.asked) (c.checked.ensures.said tells) (c.checked.ensures.alike tells)

pub returns-in-Some-CheckLog-clause-conflict : goal.returns-in-Some-CheckLog-clause-conflict
returns-in-Some-CheckLog-clause-conflict g c = λ tells.
    checked_conflict c.args.words.now (g.F.Files.held c.args.files.now) c.in-Some-CheckLog.file.now c.in-Some-CheckLog.keys.now (Some c.in-Some-CheckLog.log.now) c.checked-in-Some-CheckLog.result
    (asked_for c.args.command _ _ _ c.in-Some-CheckLog.is (rw c.in-Some-CheckLog.is at c.in-Some-CheckLog.field-0-is) c.requires.asked) (c.checked-in-Some-CheckLog.ensures.said tells) (c.checked-in-Some-CheckLog.ensures.alike tells)

pub returns-in-Some-EraAudit-clause-conflict : goal.returns-in-Some-EraAudit-clause-conflict
returns-in-Some-EraAudit-clause-conflict g c = λ tells.
    era_conflict_told c.args.words.now (g.F.Files.held c.args.files.now) (map string_bytes c.in-Some-EraAudit.left.now) (map string_bytes c.in-Some-EraAudit.right.now) c.audit_eras.result
    (asked_for c.args.command _ _ _ c.in-Some-EraAudit.is (rw c.in-Some-EraAudit.is at c.in-Some-EraAudit.field-0-is) c.requires.asked) (c.audit_eras.ensures.said tells) (c.audit_eras.ensures.conflict tells)

pub returns-in-Some-Audit-clause-about : goal.returns-in-Some-Audit-clause-about
returns-in-Some-Audit-clause-about g c = λ tells.
    asked_fails (g.F.Files.held c.args.files.now) _ (Some (Audit c.in-Some-Audit.left.now c.in-Some-Audit.right.now)) _ _ c.audit_logs.result
    (asked_for c.args.command _ _ _ c.in-Some-Audit.is (rw c.in-Some-Audit.is at c.in-Some-Audit.field-0-is) c.requires.asked) (c.audit_logs.ensures.about tells)

pub returns-in-Some-Check-clause-about : goal.returns-in-Some-Check-clause-about
returns-in-Some-Check-clause-about g c = λ tells.
    asked_fails (g.F.Files.held c.args.files.now) _ (Some (Check c.in-Some-Check.file.now c.in-Some-Check.keys.now None)) _ _ c.checked.result
    (asked_for c.args.command _ _ _ c.in-Some-Check.is (rw c.in-Some-Check.is at c.in-Some-Check.field-0-is) c.requires.asked) (c.checked.ensures.about tells)

pub returns-in-Some-CheckLog-clause-about : goal.returns-in-Some-CheckLog-clause-about
returns-in-Some-CheckLog-clause-about g c = λ tells.
    asked_fails (g.F.Files.held c.args.files.now) _ (Some (Check c.in-Some-CheckLog.file.now c.in-Some-CheckLog.keys.now (Some c.in-Some-CheckLog.log.now))) _ _ c.checked-in-Some-CheckLog.result
    (asked_for c.args.command _ _ _ c.in-Some-CheckLog.is (rw c.in-Some-CheckLog.is at c.in-Some-CheckLog.field-0-is) c.requires.asked) (c.checked-in-Some-CheckLog.ensures.about tells)
