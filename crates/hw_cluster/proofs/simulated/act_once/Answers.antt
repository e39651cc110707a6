use Rattle.std.proofs.Common.{sym, subst, arith}
use Rattle.hw_honest.specs.declared.cluster.Action.{Action}
use Rattle.hw_cluster.specs.Nodes.{CanAct}
use Rattle.hw_cluster.proofs.RunLaws.{next_can}
use Rattle.hw_cluster.proofs.simulated.act_once.Goals as goal

pub act-requires : goal.act-requires
act-requires c =
    subst (λ (a : Action). CanAct c.args.cluster.now a) (sym (c.next_action-action.ensures c.args.cluster.now.cluster (sym c.sent_count.ensures)))
    (next_can c.args.cluster.now c.args.nodes c.args.step c.next-x.result c.next-y.result c.requires.some c.requires.nodes (let small = c.ranges.step in omega arith))
