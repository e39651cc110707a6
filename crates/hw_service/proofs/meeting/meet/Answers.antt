use Rattle.hw_service.specs.Counts.{raised_by}
use Rattle.hw_service.proofs.DoorLaws.{runs_raise, runs_keep}
use Rattle.hw_service.proofs.meeting.meet.Goals as goal

-- once is what the only step raises it by
pub returns-clause-dials : goal.returns-clause-dials
unfolding raised_by
returns-clause-dials g c = runs_raise (λ d. d.dials) _ _ _ _ _ (λ k old new result s. s.talked.called.dials) _ _ _ _ _ _ c.hold_sessions.result c.hold_sessions.ensures.holds

pub returns-clause-accepts : goal.returns-clause-accepts
returns-clause-accepts g c = runs_keep (λ d. d.accepts) _ _ _ _ _ (λ k old new result s. s.talked.called.accepts) _ _ _ _ _ _ c.hold_sessions.result c.hold_sessions.ensures.holds
