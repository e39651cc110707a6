use Rattle.std.proofs.lemmas.Result.{err_from_is_err_and}
use Rattle.hw_log.specs.Log.{head_at}
use Rattle.hw_log.proofs.FieldLaws.{fails_bind}
use Rattle.hw_log.proofs.reader.LogReader.head.Goals as goal

pub returns-in_err-need-clause-said : goal.returns-in_err-need-clause-said
unfolding head_at
returns-in_err-need-clause-said g c =
    let p = err_from_is_err_and c.from_residual.result c.from_residual.ensures.1 in
    λ tells. rw (p.1, p.2, ← c.self.view_is) (fails_bind _ _ _ (c.in_err-need.ensures.torn tells c.self.inside.place))
