use Rattle.std.proofs.Common.{refl}
use Rattle.hw_core.proofs.PlaceLaws.{placed_settled, placed_dropped}
use Rattle.hw_core.proofs.UnitTakeLaws.{none_ready, new_due}
use Rattle.hw_core.proofs.fresh.settle_unit.Goals as goal

pub settle_new-requires-clause-can : goal.settle_new-requires-clause-can
settle_new-requires-clause-can c = c.requires.node.is_of.can

pub settle_new-requires-clause-none_ready : goal.settle_new-requires-clause-none_ready
settle_new-requires-clause-none_ready c = none_ready c.args.journal.now c.args.park.now c.args.state.now c.requires.node

pub settle_new-requires-clause-due : goal.settle_new-requires-clause-due
settle_new-requires-clause-due c =
    new_due c.args.journal.now c.args.park.now c.args.state.now c.requires.node c.args.prepared.signed c.args.prepared.digest c.requires.new c.args.state.now refl c.args.prepared refl refl c.requires.room c.requires.met

pub returns-in-Ok-clause-placed : goal.returns-in-Ok-clause-placed
returns-in-Ok-clause-placed c =
    let e = c.settle_new.ensures in
    placed_settled c.args.journal.now c.args.park.now c.args.state.now c.requires.node c.args.prepared c.requires.new c.requires.met c.settle_new.new.state c.settle_new.new.park e.limit e.settled e.can e.none_ready
    c.args.dropped.now.entries c.settle_new.new.dropped.entries c.requires.rules e.noted c.in-Ok.ensures.kept c.in-Ok.settled c.in-Ok.ensures.count

pub returns-in-Err-clause-placed : goal.returns-in-Err-clause-placed
returns-in-Err-clause-placed c =
    let e = c.settle_new.ensures in
    placed_dropped c.args.journal.now c.args.park.now c.args.state.now c.requires.node c.args.prepared c.requires.new c.requires.met c.settle_new.new.state c.settle_new.new.park e.limit e.settled e.can e.none_ready
    c.args.dropped.now.entries c.settle_new.new.dropped.entries c.requires.rules e.noted c.in-Err.rule c.in-Err.ensures.broken c.in-Err.ensures.unchanged
