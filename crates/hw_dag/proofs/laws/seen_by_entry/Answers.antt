use Rattle.hw_dag.proofs.LaneLaws.{seen_by_entry}
use Rattle.hw_dag.proofs.laws.seen_by_entry.Goals as goal

pub returns : goal.returns
returns c = seen_by_entry
