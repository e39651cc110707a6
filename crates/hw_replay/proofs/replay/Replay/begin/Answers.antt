use Rattle.std.proofs.lemmas.Result.{err_from_is_err_and}
use Rattle.hw_replay.proofs.BeginLaws.{begins_ok, begins_other, begins_not}
use Rattle.hw_replay.proofs.EndLaws.{lasts_begun, midway_begun, unbegun_other, unbegun, reached_behind}
use Rattle.hw_replay.proofs.replay.Replay.begin.Goals as goal

pub returns-in_err-begun-in-Ok-clause-said : goal.returns-in_err-begun-in-Ok-clause-said
returns-in_err-begun-in-Ok-clause-said g c =
    let p = err_from_is_err_and c.from_residual.result c.from_residual.ensures.1 in
    λ tells. rw (p.1, p.2) (begins_other _ _ _ _ _ (c.in-Ok.ensures.said tells) c.in_err-begun-in-Ok.ensures.stopped)

pub returns-in_ok-begun-in-Ok-clause-said : goal.returns-in_ok-begun-in-Ok-clause-said
returns-in_ok-begun-in-Ok-clause-said g c = λ tells. begins_ok _ _ _ _ _ (c.in-Ok.ensures.said tells) c.in_ok-begun-in-Ok.ensures.begun

pub returns-in-Err-clause-said : goal.returns-in-Err-clause-said
returns-in-Err-clause-said g c = λ tells. rw c.fault_of.ensures (begins_not _ _ _ _ (c.in-Err.ensures.said tells))

pub returns-in_ok-begun-in-Ok-clause-lasts : goal.returns-in_ok-begun-in-Ok-clause-lasts
returns-in_ok-begun-in-Ok-clause-lasts g c = λ tells. lasts_begun _ _ _ _ _ (c.in-Ok.ensures.said tells) c.in_ok-begun-in-Ok.ensures.begun

pub returns-in_ok-begun-in-Ok-clause-reached : goal.returns-in_ok-begun-in-Ok-clause-reached
returns-in_ok-begun-in-Ok-clause-reached g c = reached_behind _ _ _ c.in_ok-begun-in-Ok.ensures.begun

pub returns-in_ok-begun-in-Ok-clause-midway : goal.returns-in_ok-begun-in-Ok-clause-midway
returns-in_ok-begun-in-Ok-clause-midway g c = λ tells. midway_begun _ _ _ _ _ (c.in-Ok.ensures.said tells) c.in_ok-begun-in-Ok.ensures.begun

pub returns-in_err-begun-in-Ok-clause-unbegun : goal.returns-in_err-begun-in-Ok-clause-unbegun
returns-in_err-begun-in-Ok-clause-unbegun g c =
    let p = err_from_is_err_and c.from_residual.result c.from_residual.ensures.1 in
    λ tells. rw (p.1, p.2) (unbegun_other _ _ _ _ _ (c.in-Ok.ensures.said tells) c.in_err-begun-in-Ok.ensures.stopped)

pub returns-in-Err-clause-unbegun : goal.returns-in-Err-clause-unbegun
returns-in-Err-clause-unbegun g c = λ tells. rw c.fault_of.ensures (unbegun _ _ _ _ (c.in-Err.ensures.said tells))
