use Rattle.std.proofs.Common.{subst}
use Rattle.hw_dag.specs.Dag.{UnitGraph}
use Rattle.hw_naivety.specs.Tips.{HasLists}
use Rattle.hw_core_cases.proofs.graph.naivety.fork_over.Goals as goal

pub naive_over-requires-clause-lists : goal.naive_over-requires-clause-lists
naive_over-requires-clause-lists c = subst (λ (d : UnitGraph). HasLists d c.args.panorama.now c.args.endorsed.now) c.dag.ensures.dag (c.has_lists.ensures c.if-not-has_lists.false)
