use Rattle.std.proofs.Common.{ℕ, List, ap}
use Rattle.std.proofs.lemmas.Result.{err_from_is_err_and}
use Rattle.hw_io.specs.Faults.{subject_of}
use Rattle.hw_log.specs.declared.rewritten.Rewritten.{Rewritten}
use Rattle.hw_log.proofs.AboutLaws.{error_behind}
use Rattle.hw_log.proofs.MendLaws.{unmeasured, measured}
use Rattle.hw_log.proofs.mending.mended.Goals as goal

pub returns-in_err-whole-clause-said : goal.returns-in_err-whole-clause-said
returns-in_err-whole-clause-said g c =
    let p = err_from_is_err_and c.from_residual.result c.from_residual.ensures.1 in
    λ tells. rw (p.1, p.2) (unmeasured _ _ (c.in_err-whole.ensures.said tells))

pub returns-clause-said : goal.returns-clause-said
returns-clause-said g c = λ tells. measured _ _ c.in_ok-whole.whole c.in_ok-bytes.bytes c.bytes_before.result (c.in_ok-whole.ensures.said tells) (c.in_ok-whole.ensures.files c.args.log.now) (c.in_ok-bytes.ensures.whole tells) c.bytes_before.ensures

pub returns-in_err-bytes-clause-about : goal.returns-in_err-bytes-clause-about
returns-in_err-bytes-clause-about g c =
    let p = err_from_is_err_and c.from_residual-in_err-bytes.result c.from_residual-in_err-bytes.ensures.1 in
    λ tells. rw (p.1, p.2) (error_behind (List ℕ) Rewritten _ _ _ _ _ _ (ap (λ f. subject_of f c.args.log.now) (c.in_ok-whole.ensures.files c.args.log.now)) (c.in_ok-whole.ensures.about tells) (c.in_err-bytes.ensures.about tells))
