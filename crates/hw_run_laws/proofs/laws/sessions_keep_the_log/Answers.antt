use Rattle.hw_run_laws.proofs.KeepLaws.{serves_keep, drives_keep}
use Rattle.hw_run_laws.proofs.HandedLaws.{accepts_keep}
use Rattle.hw_run_laws.proofs.MeetLaws.{meets_keep}
use Rattle.hw_run_laws.proofs.laws.sessions_keep_the_log.Goals as goal

pub returns-clause-serves : goal.returns-clause-serves
returns-clause-serves c = serves_keep

pub returns-clause-drives : goal.returns-clause-drives
returns-clause-drives c = drives_keep

pub returns-clause-meets : goal.returns-clause-meets
returns-clause-meets c = meets_keep

pub returns-clause-accepts : goal.returns-clause-accepts
returns-clause-accepts c = accepts_keep
