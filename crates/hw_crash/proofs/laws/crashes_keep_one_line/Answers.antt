use Rattle.hw_crash.proofs.CrashLaws.{keep_one_line, nothing_lost, told_apart, comes_back}
use Rattle.hw_crash.proofs.laws.crashes_keep_one_line.Goals as goal

pub returns-clause-kept : goal.returns-clause-kept
returns-clause-kept c = keep_one_line

pub returns-clause-told : goal.returns-clause-told
returns-clause-told c = nothing_lost

pub returns-clause-apart : goal.returns-clause-apart
returns-clause-apart c = told_apart

pub returns-clause-back : goal.returns-clause-back
returns-clause-back c = comes_back
