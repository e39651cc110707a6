use Rattle.hw_run_laws.proofs.InHandLaws.{rests, quiet_fair, quiet_dial_fair, quiet_meeting_fair, crossed_there}
use Rattle.hw_run_laws.proofs.in_hand.fair_sessions_are_there.Goals as goal

pub returns-clause-rests : goal.returns-clause-rests
returns-clause-rests c = rests

pub returns-clause-served : goal.returns-clause-served
returns-clause-served c = quiet_fair

pub returns-clause-driven : goal.returns-clause-driven
returns-clause-driven c = quiet_dial_fair

pub returns-clause-met : goal.returns-clause-met
returns-clause-met c = quiet_meeting_fair

pub returns-clause-crossed : goal.returns-clause-crossed
returns-clause-crossed c = crossed_there
