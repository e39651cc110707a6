use Rattle.hw_safety.proofs.SuffixLaws.{lawful_suffix, settled_suffix}
use Rattle.hw_safety.proofs.summits.quorum_is_a_suffix.Goals as goal

pub returns-clause-graph : goal.returns-clause-graph
returns-clause-graph c = lawful_suffix

pub returns-clause-settled : goal.returns-clause-settled
returns-clause-settled c = settled_suffix
