use Rattle.hw_service.proofs.DoorLaws.{runs_raise, runs_keep}
use Rattle.hw_service.proofs.hosting.host.Goals as goal

pub returns-clause-accepts : goal.returns-clause-accepts
returns-clause-accepts g c = runs_raise (λ d. d.accepts) _ _ _ _ _ (λ k old new result s. s.talked.came.accepts) _ _ _ _ _ _ c.hold_sessions.result c.hold_sessions.ensures.holds

pub returns-clause-dials : goal.returns-clause-dials
returns-clause-dials g c = runs_keep (λ d. d.dials) _ _ _ _ _ (λ k old new result s. s.talked.came.dials) _ _ _ _ _ _ c.hold_sessions.result c.hold_sessions.ensures.holds
