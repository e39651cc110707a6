use Rattle.std.proofs.Common.{refl}
use Rattle.hw_commands.specs.Files.{status_of}
use Rattle.hw_commands.proofs.CauseLaws.{read_about}
use Rattle.hw_commands.proofs.DueLaws.{certify_due, due_fails}
use Rattle.hw_commands.proofs.CertifyLaws.{written_files, same_files, stopped_not_done, reads_run}
use Rattle.hw_commands.proofs.certify.certify_absent.Goals as goal

pub returns-in-Ok-clause-files : goal.returns-in-Ok-clause-files
returns-in-Ok-clause-files g c = λ tells.
    written_files (g.F.Files.held c.args.files.now) c.args.log.now c.args.block.now c.args.new.now _ _ (status_of c.certify_node.result) c.in-Ok.replay c.in-Ok.ensures.files (c.requires tells) (c.in-Ok.ensures.said tells) (c.certify_node.ensures.files tells)

pub returns-in-Err-clause-fault : goal.returns-in-Err-clause-fault
returns-in-Err-clause-fault g c = reads_run _ _ _ _ c.stopped.result c.in-Err.ensures.appends (record { later = c.in-Err.ensures.cause.later; counted = c.stopped.ensures.cause _ _ c.in-Err.ensures.cause.counted })

pub returns-in-Err-clause-files : goal.returns-in-Err-clause-files
returns-in-Err-clause-files g c = λ tells.
    same_files (g.F.Files.held c.args.files.now) c.args.log.now c.args.block.now c.args.new.now (status_of c.stopped.result) _ (stopped_not_done c.args.log.now c.in-Err.fault c.stopped.result c.stopped.ensures.said) c.in-Err.ensures.files

pub returns-in-Err-clause-about : goal.returns-in-Err-clause-about
returns-in-Err-clause-about g c = λ tells.
    let log = c.args.log.now in
    due_fails _ (g.F.Files.held c.args.files.now) log _ _ _ _ c.stopped.result (certify_due (g.F.Files.held c.args.files.now) log c.args.block.now c.args.new.now (c.requires tells)) refl refl
    (read_about (g.F.Files.held c.args.files.now log) log _ _ c.in-Err.fault c.stopped.result (c.in-Err.ensures.about tells) c.stopped.ensures.read)
