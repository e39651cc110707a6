use Rattle.std.proofs.lemmas.Result.{err_from_is_err_and}
use Rattle.hw_session.proofs.DriveLaws.{wanting_answers}
use Rattle.hw_session.proofs.node.Node.want.Goals as goal

pub returns-in_err-needs-clause-answers : goal.returns-in_err-needs-clause-answers
returns-in_err-needs-clause-answers g c =
    let p = err_from_is_err_and c.from_residual.result c.from_residual.ensures.1 in
    rw (p.1, p.2) (wanting_answers c.args.self.now c.args.mark _ _)
