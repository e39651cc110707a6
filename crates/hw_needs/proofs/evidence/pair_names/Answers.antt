use Rattle.std.proofs.Common.{sym, ap, subst, ◌∙◌}
use Rattle.hw_dag.specs.Dag.{UnitGraph, graph}
use Rattle.hw_needs.specs.Forks.{AreNamed}
use Rattle.hw_needs.proofs.NeedLaws.{settled_named}
use Rattle.hw_needs.proofs.evidence.pair_names.Goals as goal

pub pair_of-requires : goal.pair_of-requires
pair_of-requires c = record {
  named = subst AreNamed (sym (ap (λ (dag : UnitGraph). graph dag) c.dag-dag.ensures.dag ∙ c.state.ensures.settled)) (settled_named c.args.core.now);
}
