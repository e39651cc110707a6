use Rattle.hw_cluster.proofs.WorkedLaws.{numbers_worked, totals_worked}
use Rattle.hw_cluster.proofs.laws.numbers_are_worked_out.Goals as goal

pub returns-clause-run : goal.returns-clause-run
returns-clause-run c = numbers_worked

pub returns-clause-journal : goal.returns-clause-journal
returns-clause-journal c = totals_worked
