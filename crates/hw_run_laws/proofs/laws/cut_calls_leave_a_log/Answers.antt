use Rattle.hw_run_laws.proofs.CutLaws.{serves_leave, drives_leave, make_leaves}
use Rattle.hw_run_laws.proofs.HandedLaws.{accepts_leave}
use Rattle.hw_run_laws.proofs.MeetLaws.{meets_leave}
use Rattle.hw_run_laws.proofs.laws.cut_calls_leave_a_log.Goals as goal

pub returns-clause-serves : goal.returns-clause-serves
returns-clause-serves c = serves_leave

pub returns-clause-drives : goal.returns-clause-drives
returns-clause-drives c = drives_leave

pub returns-clause-makes : goal.returns-clause-makes
returns-clause-makes c = make_leaves

pub returns-clause-meets : goal.returns-clause-meets
returns-clause-meets c = meets_leave

pub returns-clause-accepts : goal.returns-clause-accepts
returns-clause-accepts c = accepts_leave
