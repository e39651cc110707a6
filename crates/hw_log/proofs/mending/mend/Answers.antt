use Rattle.std.proofs.Common.{◌∙◌}
use Rattle.std.proofs.lemmas.Result.{err_from_is_err_and}
use Rattle.hw_log.specs.declared.rewritten.Rewritten.{Rewritten}
use Rattle.hw_log.proofs.AboutLaws.{log_about_behind, put_about}
use Rattle.hw_log.proofs.mending.mend.Goals as goal

pub returns-in_err-absent-clause-about : goal.returns-in_err-absent-clause-about
returns-in_err-absent-clause-about g c =
    let p = err_from_is_err_and c.from_residual.result c.from_residual.ensures.1 in
    λ tells. rw (p.1, p.2) (c.in_err-absent.ensures.about (g.F.Files.held c.args.files.now c.args.log.now) (g.F.Files.held c.args.files.now c.args.new.now) c.args.log.now)

pub returns-in_err-mended-clause-about : goal.returns-in_err-mended-clause-about
returns-in_err-mended-clause-about g c =
    let p = err_from_is_err_and c.from_residual-in_err-mended.result c.from_residual-in_err-mended.ensures.1 in
    λ tells. rw (p.1, p.2) (log_about_behind Rewritten _ _ _ _ _ _ _ _ _ (c.in_ok-absent.ensures.absent tells) (c.in_ok-absent.ensures.files c.args.log.now) (c.in_ok-absent.ensures.about (g.F.Files.held c.args.files.now c.args.log.now) (g.F.Files.held c.args.files.now c.args.new.now) c.args.log.now) (c.in_err-mended.ensures.about tells))

pub returns-in_err-put-clause-about : goal.returns-in_err-put-clause-about
returns-in_err-put-clause-about g c =
    let p = err_from_is_err_and c.from_residual-in_err-put.result c.from_residual-in_err-put.ensures.1 in
    λ tells. rw (p.1, p.2) (put_about _ _ _ _ _ _ _ c.in_err-put.ensures.why (c.in_err-put.ensures.about ∙ c.in_ok-mended.ensures.about tells ∙ c.in_ok-absent.ensures.about (g.F.Files.held c.args.files.now c.args.log.now) (g.F.Files.held c.args.files.now c.args.new.now) c.args.log.now))

pub returns-clause-about : goal.returns-clause-about
returns-clause-about g c = λ tells. c.in_ok-put.ensures.about ∙ c.in_ok-mended.ensures.about tells ∙ c.in_ok-absent.ensures.about (g.F.Files.held c.args.files.now c.args.log.now) (g.F.Files.held c.args.files.now c.args.new.now) c.args.log.now
