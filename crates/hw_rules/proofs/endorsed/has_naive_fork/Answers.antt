use Rattle.std.proofs.Common.{sym, ◌∙◌}
use Rattle.hw_dag.specs.Dag.{graph}
use Rattle.hw_dag.specs.Admission.{node_prepared}
use Rattle.hw_rules.proofs.CaseLaws.{panorama_is, consistent_below}
use Rattle.hw_rules.proofs.StateLaws.{keeps_endorsed}
use Rattle.hw_rules.proofs.endorsed.has_naive_fork.Goals as goal

pub check_consistent-requires-clause-panorama : goal.check_consistent-requires-clause-panorama
check_consistent-requires-clause-panorama c = panorama_is c.args.dag.now c.args.prepared.now c.requires.case c.requires.slots

pub check_consistent-requires-clause-endorsed : goal.check_consistent-requires-clause-endorsed
check_consistent-requires-clause-endorsed c = keeps_endorsed (graph c.args.dag.now) (node_prepared c.args.prepared.now) c.requires.kept

pub check_consistent-requires-clause-consistent : goal.check_consistent-requires-clause-consistent
check_consistent-requires-clause-consistent c = sym (consistent_below c.args.dag.now c.args.prepared.now c.requires.case) ∙ c.requires.consistent
