use Rattle.std.proofs.Common.{inl, refl}
use Rattle.std.proofs.lemmas.Result.{err_from_is_err_and}
use Rattle.hw_service.specs.declared.ended.Served.{Served}
use Rattle.hw_service.proofs.RunLaws.{begins_unwritten, runs_from}
use Rattle.hw_service.proofs.sessions.hold_sessions.Goals as goal

pub returns-clause-holds : goal.returns-clause-holds
returns-clause-holds g c = runs_from _ _ _ _ _ _ _ _ _ _ _ _ c.hold_begun.result (c.in_ok-host.ensures.begins _ _) c.in_ok-host.ensures.whole c.hold_begun.ensures.proceeds

pub returns-in_err-host-clause-holds : goal.returns-in_err-host-clause-holds
returns-in_err-host-clause-holds g c =
    let p = err_from_is_err_and c.from_residual.result c.from_residual.ensures.1 in
    rw (p.1, p.2) (inl (record { begins_not = c.in_err-host.ensures.begins_not _ _; same = refl }))

pub returns-in_err-host-clause-writes : goal.returns-in_err-host-clause-writes
returns-in_err-host-clause-writes g c =
    let p = err_from_is_err_and c.from_residual.result c.from_residual.ensures.1 in
    rw (p.1, p.2) (begins_unwritten Served _ _ _ _ _ _ c.in_err-host.field-0.0 _ (c.in_err-host.ensures.begins_not (record { sessions = g.D.Door.sessions c.args.door.now; accepts = 0; dials = 0; ends = 0 }) (g.S.Sink.taken c.args.out.now)))
