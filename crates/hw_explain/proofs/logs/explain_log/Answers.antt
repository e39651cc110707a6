use Rattle.std.proofs.Common.{◌∙◌}
use Rattle.std.proofs.lemmas.Result.{err_from_is_err_and}
use Rattle.hw_explain.proofs.LogLaws.{explains_all, begins_not}
use Rattle.hw_explain.proofs.logs.explain_log.Goals as goal

pub returns-clause-said : goal.returns-clause-said
returns-clause-said g c = λ tells. explains_all (g.F.Files.held c.args.files.now c.args.name.now) (g.F.Files.unread c.begin.new.files) c.in_ok-replay.replay c.explain_rest-told.result (c.in_ok-replay.ensures.said tells) (c.explain_rest-told.ensures.said tells)

pub returns-in_err-replay-clause-said : goal.returns-in_err-replay-clause-said
returns-in_err-replay-clause-said g c =
    let p = err_from_is_err_and c.from_residual.result c.from_residual.ensures.1 in
    λ tells. rw (p.1, p.2) (begins_not (g.F.Files.held c.args.files.now c.args.name.now) (g.F.Files.unread c.begin.new.files) c.in_err-replay.field-0.0 (c.in_err-replay.ensures.said tells))

pub returns-clause-files : goal.returns-clause-files
returns-clause-files g c = λ name. c.explain_rest-told.ensures.files name ∙ c.begin.ensures.files name
