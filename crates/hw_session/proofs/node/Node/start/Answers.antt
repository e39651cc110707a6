use Rattle.std.proofs.Common.{◌∙◌}
use Rattle.hw_session.proofs.StartLaws.{begun_said, begun_counted, begun_about, about_tested, writes_not}
use Rattle.hw_session.proofs.node.Node.start.Goals as goal

pub returns-in-Ok-false-clause-said : goal.returns-in-Ok-false-clause-said
returns-in-Ok-false-clause-said g c = λ tells.
    begun_said c.args.config c.args.keys c.args.log.now _ c.begin.result (rw c.in-Ok-false.field-0-test at (c.in-Ok-false.ensures.answer tells)) c.begin.ensures.node c.begin.ensures.error

pub returns-in-Ok-false-clause-cause : goal.returns-in-Ok-false-clause-cause
returns-in-Ok-false-clause-cause g c = begun_counted _ _ _ _ _ c.begin.result (c.begin.ensures.reads ∙ c.in-Ok-false.ensures.cause.failed) c.in-Ok-false.ensures.appends c.begin.ensures.error c.begin.ensures.cause

pub returns-in-Ok-false-clause-about : goal.returns-in-Ok-false-clause-about
returns-in-Ok-false-clause-about g c = λ tells. begun_about c.args.log.now (g.F.Files.faults_about c.args.files.now) (g.F.Files.faults_about c.begin.new.files) c.begin.result c.begin.ensures.error

pub returns-in-Err-clause-log : goal.returns-in-Err-clause-log
returns-in-Err-clause-log g c = λ tells. writes_not c.args.config c.args.log.now _ _ _ c.fault_of_read.result c.in-Err.ensures.files

pub returns-in-Ok-true-clause-about : goal.returns-in-Ok-true-clause-about
returns-in-Ok-true-clause-about g c = λ tells.
    about_tested c.args.log.now _ _ _ _ _ c.go_on.result (rw c.in-Ok-true.field-0-test at (c.in-Ok-true.ensures.answer tells)) (c.in-Ok-true.ensures.files c.args.log.now) c.in-Ok-true.ensures.about (c.go_on.ensures.about tells)
