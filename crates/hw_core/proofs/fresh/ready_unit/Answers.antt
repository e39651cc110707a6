use Rattle.std.proofs.Common.{ℕ, length, sym, subst, arith}
use Rattle.hw_dag.specs.Admission.{IsFor}
use Rattle.hw_admit.specs.State.{NodeState}
use Rattle.hw_core.specs.Decided.{HasRoomFor}
use Rattle.hw_core.proofs.PlaceLaws.{always_ok}
use Rattle.hw_core.proofs.UnitBoundLaws.{waits_few, settled_few, journal_few}
use Rattle.hw_core.proofs.fresh.ready_unit.Goals as goal

pub units_at_most-units-requires : goal.units_at_most-units-requires
units_at_most-units-requires c = (c.args.journal.now.items, c.requires.node)

pub overflow_add-waiting : goal.overflow_add-waiting
overflow_add-waiting c =
    let count = c.count-waiting.ensures in
    let few = waits_few c.args.journal.now.items c.args.park.now c.args.state.now c.requires.node in
    let most = journal_few c.args.journal.now.items c.args.park.now c.args.state.now c.requires.node c.config-config.ensures.lawful in
    omega arith

pub make_room-requires : goal.make_room-requires
make_room-requires c =
    let count = c.count-waiting.ensures in
    let settled = settled_few c.args.journal.now.items c.args.park.now c.args.state.now c.requires.node c.units_at_most-units.ensures.graph in
    let few = waits_few c.args.journal.now.items c.args.park.now c.args.state.now c.requires.node in
    let most = journal_few c.args.journal.now.items c.args.park.now c.args.state.now c.requires.node c.config-config.ensures.lawful in
    omega arith

pub prepare_copy-requires : goal.prepare_copy-requires
prepare_copy-requires c = subst (λ (t : NodeState). IsFor (length t.config.weights) c.args.named.unit.now) (sym c.make_room.ensures.unchanged.unchanged) c.requires.fits

pub returns-clause-places : goal.returns-clause-places
returns-clause-places c = always_ok c.prepare_copy.result (let room = c.in_ok-make_room.ensures.places in let count = c.count-waiting.ensures in omega arith)

pub returns-clause-table : goal.returns-clause-table
returns-clause-table c = always_ok c.prepare_copy.result c.in_ok-make_room.ensures.table

pub returns-clause-place : goal.returns-clause-place
returns-clause-place c = always_ok c.prepare_copy.result c.in_ok-make_room.ensures.place

pub returns-clause-room : goal.returns-clause-room
returns-clause-room c = always_ok c.prepare_copy.result (let room = c.in_ok-make_room.ensures.room in let count = c.count-waiting.ensures in omega arith)

pub returns-clause-blocks : goal.returns-clause-blocks
returns-clause-blocks c = always_ok c.prepare_copy.result (subst (λ (n : ℕ). HasRoomFor c.reserve.new.self n) c.units_at_most-units.ensures.count c.in_ok-reserve.ensures.room)

pub returns-clause-few : goal.returns-clause-few
returns-clause-few c = always_ok c.prepare_copy.result (let most = journal_few c.args.journal.now.items c.args.park.now c.args.state.now c.requires.node c.config-config.ensures.lawful in omega arith)
