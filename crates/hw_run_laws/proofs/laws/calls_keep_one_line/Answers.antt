use Rattle.hw_run_laws.proofs.CallLaws.{calls_keep, calls_apart}
use Rattle.hw_run_laws.proofs.AttemptLaws.{attempts_keep}
use Rattle.hw_run_laws.proofs.SaidLaws.{attempts_say}
use Rattle.hw_run_laws.proofs.laws.calls_keep_one_line.Goals as goal

pub returns-clause-kept : goal.returns-clause-kept
returns-clause-kept c = calls_keep

pub returns-clause-attempts : goal.returns-clause-attempts
returns-clause-attempts c = attempts_keep

pub returns-clause-said : goal.returns-clause-said
returns-clause-said c = attempts_say

pub returns-clause-apart : goal.returns-clause-apart
returns-clause-apart c = calls_apart
