use Rattle.std.proofs.Common.{ℕ, List}
use Rattle.std.proofs.lemmas.Result.{err_from_is_err_and}
use Rattle.hw_io.proofs.About.{begun-subject, about-error}
use Rattle.hw_log.proofs.file.read_file.Goals as goal

pub returns-in_err-read_rest-clause-about : goal.returns-in_err-read_rest-clause-about
returns-in_err-read_rest-clause-about g c =
    let p = err_from_is_err_and c.from_residual-in_err-read_rest.result c.from_residual-in_err-read_rest.ensures.1 in
    λ tells. rw (p.1, p.2) (about-error (Unit {0}) (List ℕ) _ _ _ _ _ _ (begun-subject _ _ _ _ (c.in_ok-begin.ensures.whole tells)) (c.in_ok-begin.ensures.about tells) c.in_err-read_rest.ensures.about)
