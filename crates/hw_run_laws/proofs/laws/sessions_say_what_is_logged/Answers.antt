use Rattle.hw_run_laws.proofs.OutLaws.{served_says, serves_says}
use Rattle.hw_run_laws.proofs.DriverLaws.{driven_says, drives_says}
use Rattle.hw_run_laws.proofs.MetLaws.{met_says}
use Rattle.hw_run_laws.proofs.MeetLaws.{meets_say}
use Rattle.hw_run_laws.proofs.WroteLaws.{serves_write, drives_write}
use Rattle.hw_run_laws.proofs.laws.sessions_say_what_is_logged.Goals as goal

pub returns-clause-served : goal.returns-clause-served
returns-clause-served c = served_says

pub returns-clause-driven : goal.returns-clause-driven
returns-clause-driven c = driven_says

pub returns-clause-serves : goal.returns-clause-serves
returns-clause-serves c = serves_says

pub returns-clause-drives : goal.returns-clause-drives
returns-clause-drives c = drives_says

pub returns-clause-serves_writes : goal.returns-clause-serves_writes
returns-clause-serves_writes c = serves_write

pub returns-clause-drives_writes : goal.returns-clause-drives_writes
returns-clause-drives_writes c = drives_write

pub returns-clause-met : goal.returns-clause-met
returns-clause-met c = met_says

pub returns-clause-meets : goal.returns-clause-meets
returns-clause-meets c = meets_say
