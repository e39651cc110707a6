use Rattle.std.proofs.Common.{Some}
use Rattle.std.proofs.lemmas.Result.{err_from_is_err_and}
use Rattle.hw_replay.specs.declared.replay.Replay.{Replay}
use Rattle.hw_replay.proofs.BeginLaws.{replays_not, replays_unbegun}
use Rattle.hw_replay.proofs.CauseLaws.{about_carries, cause_carries}
use Rattle.hw_replay.proofs.EndLaws.{no_ok}
use Rattle.hw_replay.proofs.replay.replay_log.Goals as goal

pub returns-in_err-replay-clause-said : goal.returns-in_err-replay-clause-said
returns-in_err-replay-clause-said g c =
    let p = err_from_is_err_and c.from_residual.result c.from_residual.ensures.1 in
    λ tells. rw (p.1, p.2) (replays_unbegun _ _ _ _ (c.in_err-replay.ensures.said tells))

pub returns-in_err-take_all-clause-said : goal.returns-in_err-take_all-clause-said
returns-in_err-take_all-clause-said g c =
    let p = err_from_is_err_and c.from_residual-in_err-take_all.result c.from_residual-in_err-take_all.ensures.1 in
    λ tells. rw (p.1, p.2) (replays_not _ _ _ _ _ (c.in_ok-replay.ensures.said tells) (c.in_err-take_all.ensures.said tells))

pub returns-in_err-take_all-clause-cause : goal.returns-in_err-take_all-clause-cause
returns-in_err-take_all-clause-cause g c =
    let p = err_from_is_err_and c.from_residual-in_err-take_all.result c.from_residual-in_err-take_all.ensures.1 in
    rw (p.1, p.2) (cause_carries Replay _ _ _ c.take_all.result _ c.in_ok-replay.ensures.cause.counted c.in_err-take_all.was c.take_all.ensures.cause)

pub returns-in_err-take_all-clause-about : goal.returns-in_err-take_all-clause-about
returns-in_err-take_all-clause-about g c =
    let p = err_from_is_err_and c.from_residual-in_err-take_all.result c.from_residual-in_err-take_all.ensures.1 in
    λ tells. rw (p.1, p.2) (about_carries Replay _ _ _ _ _ c.take_all.result _ (c.in_ok-replay.ensures.subject tells) (c.in_ok-replay.ensures.about tells) c.in_err-take_all.was c.take_all.ensures.about)

pub returns-in_err-take_all-clause-lasts : goal.returns-in_err-take_all-clause-lasts
returns-in_err-take_all-clause-lasts g c =
    let p = err_from_is_err_and c.from_residual-in_err-take_all.result c.from_residual-in_err-take_all.ensures.1 in
    λ tells. no_ok c.from_residual-in_err-take_all.result _ _ p.1

pub returns-in_err-take_all-clause-reached : goal.returns-in_err-take_all-clause-reached
returns-in_err-take_all-clause-reached g c =
    let p = err_from_is_err_and c.from_residual-in_err-take_all.result c.from_residual-in_err-take_all.ensures.1 in
    no_ok c.from_residual-in_err-take_all.result _ _ p.1

pub returns-in_err-take_all-clause-wanted : goal.returns-in_err-take_all-clause-wanted
returns-in_err-take_all-clause-wanted g c =
    let p = err_from_is_err_and c.from_residual-in_err-take_all.result c.from_residual-in_err-take_all.ensures.1 in
    no_ok c.from_residual-in_err-take_all.result _ _ p.1
