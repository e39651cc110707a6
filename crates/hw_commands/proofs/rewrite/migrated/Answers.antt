use Rattle.std.proofs.Common.{codes, sym, ap, ◌∙◌}
use Rattle.hw_log.specs.Rewritten.{migrated_of}
use Rattle.hw_commands.specs.declared.ended.Ended.{Ended}
use Rattle.hw_commands.proofs.FaultLaws.{if_ok}
use Rattle.hw_commands.proofs.CauseLaws.{no_read}
use Rattle.hw_commands.proofs.DueLaws.{nothing_migrated}
use Rattle.hw_commands.proofs.RewriteLaws.{migrated_line, said_done, said_unwritten, done_run, failed_run, failed_about, done_files, failed_files, ended_two, not_done}
use Rattle.hw_commands.proofs.rewrite.migrated.Goals as goal

pub returns-in-Ok-clause-said : goal.returns-in-Ok-clause-said
returns-in-Ok-clause-said g c = λ tells.
    let held = g.F.Files.held c.args.files.now in
    if_ok _ _ c.count_ended.result c.count_ended.ensures.said (λ e is. is ∙ ap (λ t. record { status = 0; text = t }) (migrated_line c.in-Ok.count) ∙ sym (said_done migrated_of (codes "migrated") held c.args.log.now c.args.new.now c.in-Ok.count _ (c.in-Ok.ensures.done tells)))

pub returns-in-Ok-clause-fault : goal.returns-in-Ok-clause-fault
returns-in-Ok-clause-fault g c = done_run c.in-Ok.count _ _ _ _ c.count_ended.result c.in-Ok.ensures.cause c.count_ended.ensures.fault

pub returns-in-Ok-clause-about : goal.returns-in-Ok-clause-about
returns-in-Ok-clause-about g c = λ tells. no_read _ c.count_ended.result c.count_ended.ensures.fault

pub returns-in-Ok-clause-files : goal.returns-in-Ok-clause-files
returns-in-Ok-clause-files g c = λ tells.
    done_files migrated_of c.args.log.now c.args.new.now _ _ (c.in-Ok.ensures.others tells) c.in-Ok.count c.count_ended.result (c.in-Ok.ensures.done tells)
    (if_ok _ _ c.count_ended.result c.count_ended.ensures.said (λ e is. ap (λ (x : Ended). x.status) is)) c.count_ended.ensures.fault

pub returns-in-Err-clause-said : goal.returns-in-Err-clause-said
returns-in-Err-clause-said g c = λ tells.
    let held = g.F.Files.held c.args.files.now in
    if_ok _ _ c.unwritten.result c.unwritten.ensures.said (λ e is. is.0 ∙ sym (said_unwritten migrated_of (codes "migrated") held c.args.log.now c.args.new.now c.in-Err.fault is.1 (c.in-Err.ensures.why tells) (c.in-Err.ensures.first tells)))

pub returns-in-Err-clause-status : goal.returns-in-Err-clause-status
returns-in-Err-clause-status g c = if_ok _ _ c.unwritten.result c.unwritten.ensures.said (λ e is. ended_two c.args.log.now c.args.new.now c.in-Err.fault e is.0)

pub returns-in-Err-clause-fault : goal.returns-in-Err-clause-fault
returns-in-Err-clause-fault g c = failed_run c.args.log.now c.args.new.now c.in-Err.fault _ _ _ _ c.unwritten.result c.in-Err.ensures.cause c.unwritten.ensures.said c.unwritten.ensures.fault

pub returns-in-Err-clause-about : goal.returns-in-Err-clause-about
returns-in-Err-clause-about g c = λ tells. failed_about migrated_of (codes "migrated") _ nothing_migrated (g.F.Files.held c.args.files.now) c.args.log.now c.args.new.now _ _ c.in-Err.fault c.unwritten.result (c.in-Err.ensures.about tells) c.unwritten.ensures.fault

pub returns-in-Err-clause-files : goal.returns-in-Err-clause-files
returns-in-Err-clause-files g c = λ tells.
    failed_files migrated_of c.args.log.now c.args.new.now _ _ (c.in-Err.ensures.others tells) c.in-Err.fault c.unwritten.result (c.in-Err.ensures.cut tells) c.in-Err.ensures.unwritten c.unwritten.ensures.said c.unwritten.ensures.fault

pub returns-in-Err-clause-same : goal.returns-in-Err-clause-same
returns-in-Err-clause-same g c = λ tells zero. absurd (not_done c.args.log.now c.args.new.now c.in-Err.fault c.unwritten.result c.unwritten.ensures.said zero)
