use Rattle.std.proofs.Common.{sym}
use Rattle.std.proofs.lemmas.Result.{err_from_is_err_and}
use Rattle.std.specs.Option.{option_copied}
use Rattle.hw_commands.proofs.CheckRunLaws.{then_alike_in}
use Rattle.hw_commands.proofs.DueLaws.{file_due, behind_certificate, first_fails, then_fails}
use Rattle.hw_commands.proofs.check.checked.Goals as goal

pub returns-in-Ok-clause-alike : goal.returns-in-Ok-clause-alike
returns-in-Ok-clause-alike g c = λ tells.
    then_alike_in _ _ c.in_ok-certificate.ensures.files c.args.file.now c.in-Ok.certificate (option_copied c.args.log) c.check.result (rw c.in-Ok.is at (c.in_ok-certificate.ensures.said tells)) (c.check.ensures.alike tells)

pub returns-in_err-certificate-clause-about : goal.returns-in_err-certificate-clause-about
returns-in_err-certificate-clause-about g c =
    let p = err_from_is_err_and c.from_residual.result c.from_residual.ensures.1 in
    λ tells. rw (p.1, p.2)
    (first_fails _ (g.F.Files.held c.args.files.now) c.args.file.now _ _ _ (file_due (g.F.Files.held c.args.files.now) c.args.file.now c.args.keys.now (option_copied c.args.log)) (c.in_err-certificate.ensures.about tells))

pub returns-in-Ok-clause-about : goal.returns-in-Ok-clause-about
returns-in-Ok-clause-about g c = λ tells.
    let held = g.F.Files.held c.args.files.now in
    let file = c.args.file.now in
    let read = sym (rw c.in-Ok.is at (c.in_ok-certificate.ensures.said tells)) in
    then_fails _ _ held _ _ _ _ c.check.result c.in_ok-certificate.ensures.files (c.in_ok-certificate.ensures.about tells)
    (λ name due. behind_certificate held file c.args.keys.now (option_copied c.args.log) c.in-Ok.certificate name read due) (c.check.ensures.about tells)
