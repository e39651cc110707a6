use Rattle.std.proofs.lemmas.Result.{err_from_is_err_and}
use Rattle.hw_log.proofs.MigrateLaws.{unopened}
use Rattle.hw_log.proofs.migrating.migrated.Goals as goal

pub returns-in_err-reader-clause-said : goal.returns-in_err-reader-clause-said
returns-in_err-reader-clause-said g c =
    let p = err_from_is_err_and c.from_residual.result c.from_residual.ensures.1 in
    λ tells. rw (p.1, p.2) (unopened _ _ _ (c.in_err-reader.ensures.said tells))
