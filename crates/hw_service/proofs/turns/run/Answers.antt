use Rattle.std.proofs.Common.{inl, refl}
use Rattle.std.proofs.lemmas.Result.{err_from_is_err_and}
use Rattle.hw_service.specs.declared.ended.Served.{Served}
use Rattle.hw_service.proofs.RunLaws.{begins_unwritten, runs_from}
use Rattle.hw_service.proofs.TurnLaws.{run_accepts, run_dials, run_many}
use Rattle.hw_service.proofs.turns.run.Goals as goal

pub returns-clause-runs : goal.returns-clause-runs
returns-clause-runs g c = runs_from _ _ _ _ _ _ _ _ _ _ _ _ c.run_begun.result (c.in_ok-host.ensures.begins _ _) c.in_ok-host.ensures.whole c.run_begun.ensures.proceeds

pub returns-in_err-host-clause-runs : goal.returns-in_err-host-clause-runs
returns-in_err-host-clause-runs g c =
    let p = err_from_is_err_and c.from_residual.result c.from_residual.ensures.1 in
    rw (p.1, p.2) (inl (record { begins_not = c.in_err-host.ensures.begins_not _ _; same = refl }))

pub returns-in_err-host-clause-writes : goal.returns-in_err-host-clause-writes
returns-in_err-host-clause-writes g c =
    let p = err_from_is_err_and c.from_residual.result c.from_residual.ensures.1 in
    rw (p.1, p.2) (begins_unwritten Served _ _ _ _ _ _ c.in_err-host.field-0.0 _ (c.in_err-host.ensures.begins_not (record { sessions = g.D.Door.sessions c.args.environment.now.door.now; accepts = 0; dials = 0; ends = 0 }) (g.S.Sink.taken c.args.environment.now.out.now)))

pub returns-clause-peers : goal.returns-clause-peers
returns-clause-peers g c = run_many _ _ _ _ _ _ _ _ _ c.run_begun.result (returns-clause-runs g c)

pub returns-clause-dials : goal.returns-clause-dials
returns-clause-dials g c = run_dials _ _ _ _ _ _ _ _ _ c.run_begun.result (returns-clause-runs g c)

pub returns-clause-accepts : goal.returns-clause-accepts
returns-clause-accepts g c = run_accepts _ _ _ _ _ _ _ _ _ c.run_begun.result (returns-clause-runs g c)
