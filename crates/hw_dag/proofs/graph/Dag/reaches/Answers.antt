use Rattle.std.proofs.Common.{arith}
use Rattle.hw_dag.proofs.MarkLaws.{slots_reach, none_above}
use Rattle.hw_dag.proofs.graph.Dag.reaches.Goals as goal

pub returns-then-top-low : goal.returns-then-top-low
returns-then-top-low c = (
  λ t. absurd cc,
  λ b. absurd (none_above c.args.self.now c.recall_graph.ensures c.args.slots.now c.greatest-top.result c.args.low.0 c.requires.known c.requires.low_known c.requires.apart c.greatest-top.ensures.all c.if-top-low.true b),
)

pub returns : goal.returns
returns c =
    let above = c.if-top-low.false in
    let one = c.greatest-top.ensures.one (omega arith) in
    let known = c.requires.known one.0 one.1 one.2 in
    let same = one.3 in
    let reach = slots_reach c.args.self.now c.recall_graph.ensures c.args.slots.now c.greatest-top.result c.args.low.0 c.clear.new.marked c.mark_observed_by.new.marked c.requires.known c.requires.low_known (omega arith) c.requires.apart c.greatest-top.ensures.all
    c.clear.ensures c.mark_observed_by.ensures.all c.mark_observed_by.ensures.only in
    (λ t. reach.0 (c.walk.ensures.0 t), λ b. c.walk.ensures.1 (reach.1 b))
