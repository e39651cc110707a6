-- Numbers alone tell where no validator has two lanes, and where they tell that a slot isn't met.
use Rattle.std.proofs.Common.{not, sym, ap, ◌∙◌}
use Rattle.hw_dag.proofs.WithinLaws.{within_is_below, not_within_not_below}
use Rattle.hw_dag.proofs.order.at_most.Goals as goal

pub returns-then-not-is_forked : goal.returns-then-not-is_forked
returns-then-not-is_forked c =
    ap not c.if-not-is_forked.true ∙ sym (within_is_below c.args.dag.now c.recall_graph.ensures c.args.left.now c.args.right.now c.requires.left c.requires.right (c.is_forked.ensures c.if-not-is_forked.true) (c.is_within.ensures.0 c.if-is_within.true))

pub returns-else-is_within : goal.returns-else-is_within
returns-else-is_within c =
    c.if-is_within.false ∙ not_within_not_below c.args.dag.now c.recall_graph.ensures c.args.left.now c.args.right.now c.requires.left c.requires.right c.is_within.result c.is_within.ensures c.if-is_within.false
