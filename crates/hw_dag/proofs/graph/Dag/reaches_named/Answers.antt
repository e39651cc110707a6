use Rattle.hw_dag.proofs.ListLaws.{named_reach}
use Rattle.std.proofs.Common.{arith}
use Rattle.hw_dag.proofs.graph.Dag.reaches_named.Goals as goal

pub clear-requires : goal.clear-requires
clear-requires c = let room = c.requires.room c.args.top (c.requires.top.one (let below = c.requires.below in omega arith)) in omega arith

pub walk-requires-clause-known : goal.walk-requires-clause-known
walk-requires-clause-known c = let known = (c.requires.top.one (let below = c.requires.below in omega arith)).known in omega arith

pub walk-requires-clause-room : goal.walk-requires-clause-room
walk-requires-clause-room c = let room = c.requires.room c.args.top (c.requires.top.one (let below = c.requires.below in omega arith)) in omega arith

pub returns : goal.returns
returns c =
    let known = (c.requires.top.one (let below = c.requires.below in omega arith)).known in
    let reach = named_reach c.args.self.now c.recall_graph.ensures c.args.names.now c.args.top c.args.low.0 c.clear.new.marked c.mark_observed_by_named.new.marked c.requires.known (omega arith) c.requires.top
    c.clear.ensures c.mark_observed_by_named.ensures.all c.mark_observed_by_named.ensures.only in
    (λ t. reach.0 (c.walk.ensures.0 t), λ b. c.walk.ensures.1 (reach.1 b))
