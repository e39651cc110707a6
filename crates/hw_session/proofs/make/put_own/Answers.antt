use Rattle.std.proofs.Common.{Option}
use Rattle.std.proofs.lemmas.Result.{err_from_is_err_and}
use Rattle.hw_types.specs.declared.answers.Plan.{Plan}
use Rattle.hw_session.proofs.AppendLaws.{as_err}
use Rattle.hw_session.proofs.MakeLaws.{cut_puts, cut_counted}
use Rattle.hw_session.proofs.make.put_own.Goals as goal

pub returns-in_err-put_entry-clause-put : goal.returns-in_err-put_entry-clause-put
returns-in_err-put_entry-clause-put g c =
    let p = err_from_is_err_and c.from_residual.result c.from_residual.ensures.1 in
    rw (p.1, p.2) (cut_puts _ _ c.args.entry c.args.made c.in_err-put_entry.field-0.0 c.in_err-put_entry.ensures.same)

pub returns-in_err-put_entry-clause-log : goal.returns-in_err-put_entry-clause-log
returns-in_err-put_entry-clause-log g c = λ tells.
    let p = err_from_is_err_and c.from_residual.result c.from_residual.ensures.1 in
    rw p.1 (as_err _ _ _ _ c.in_err-put_entry.field-0.0 p.0 (c.in_err-put_entry.ensures.bytes tells))

pub returns-in_err-put_entry-clause-cause : goal.returns-in_err-put_entry-clause-cause
returns-in_err-put_entry-clause-cause g c =
    let p = err_from_is_err_and c.from_residual.result c.from_residual.ensures.1 in
    rw (p.1, p.2) (cut_counted _ (Option Plan) _ _ c.in_err-put_entry.field-0.0 c.in_err-put_entry.ensures.cause)
