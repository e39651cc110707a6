use Rattle.std.proofs.Common.{ap, arith}
use Rattle.hw_dag.specs.Dag.{UnitGraph, count_of}
use Rattle.hw_core.proofs.CountLaws.{graph_length}
use Rattle.hw_core.proofs.UnitBoundLaws.{waits_few, settled_few, journal_few}
use Rattle.hw_core.proofs.units.units_at_most.Goals as goal

pub overflow_add-result : goal.overflow_add-result
overflow_add-result c =
    let few = waits_few c.requires.0 c.args.park.now c.args.state.now c.requires.1 in
    let settled = settled_few c.requires.0 c.args.park.now c.args.state.now c.requires.1 c.dag.ensures.graph in
    let most = journal_few c.requires.0 c.args.park.now c.args.state.now c.requires.1 c.config-config.ensures.lawful in
    let count = c.count-2.ensures in
    let units = c.count.ensures.count in
    let same = ap (λ (d : UnitGraph). count_of d) c.dag.ensures.dag in
    omega arith

pub overflow_add-result-2 : goal.overflow_add-result-2
overflow_add-result-2 c =
    let few = waits_few c.requires.0 c.args.park.now c.args.state.now c.requires.1 in
    let settled = settled_few c.requires.0 c.args.park.now c.args.state.now c.requires.1 c.dag.ensures.graph in
    let most = journal_few c.requires.0 c.args.park.now c.args.state.now c.requires.1 c.config-config.ensures.lawful in
    let count = c.count-2.ensures in
    let units = c.count.ensures.count in
    let same = ap (λ (d : UnitGraph). count_of d) c.dag.ensures.dag in
    omega arith

pub returns-clause-count : goal.returns-clause-count
returns-clause-count c =
    let count = c.count-2.ensures in
    let units = c.count.ensures.count in
    let same = ap (λ (d : UnitGraph). count_of d) c.dag.ensures.dag in
    let long = graph_length c.args.state.now.dag c.dag.ensures.graph in
    omega arith
