use Rattle.hw_dag.proofs.RuleLaws.{rules_are_kept}
use Rattle.hw_dag.proofs.laws.rules_are_kept.Goals as goal

pub returns : goal.returns
returns c = rules_are_kept
