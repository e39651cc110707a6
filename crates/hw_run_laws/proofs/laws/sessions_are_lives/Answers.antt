use Rattle.hw_run_laws.proofs.LifeLaws.{served_these, served_life, serves_life}
use Rattle.hw_run_laws.proofs.DriverLaws.{driven_these, driven_life, drives_life}
use Rattle.hw_run_laws.proofs.HandedLaws.{accepts_life}
use Rattle.hw_run_laws.proofs.MetLaws.{met_life}
use Rattle.hw_run_laws.proofs.MeetLaws.{meets_life}
use Rattle.hw_run_laws.proofs.laws.sessions_are_lives.Goals as goal

pub returns-clause-served : goal.returns-clause-served
returns-clause-served c = served_life

pub returns-clause-driven : goal.returns-clause-driven
returns-clause-driven c = driven_life

pub returns-clause-served_takes : goal.returns-clause-served_takes
returns-clause-served_takes c = served_these

pub returns-clause-driven_takes : goal.returns-clause-driven_takes
returns-clause-driven_takes c = driven_these

pub returns-clause-serves : goal.returns-clause-serves
returns-clause-serves c = serves_life

pub returns-clause-drives : goal.returns-clause-drives
returns-clause-drives c = drives_life

pub returns-clause-met : goal.returns-clause-met
returns-clause-met c = met_life

pub returns-clause-meets : goal.returns-clause-meets
returns-clause-meets c = meets_life

pub returns-clause-accepts : goal.returns-clause-accepts
returns-clause-accepts c = accepts_life
