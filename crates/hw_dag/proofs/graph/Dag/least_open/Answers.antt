use Rattle.std.proofs.Common.{◌<◌, [], subst, arith}
use Rattle.hw_types.specs.declared.unit.Digest.{Digest}
use Rattle.hw_dag.specs.Lists.{NamesBefore}
use Rattle.hw_dag.proofs.PlaceLaws.{among_place, place_is_among}
use Rattle.hw_dag.proofs.graph.Dag.least_open.Goals as goal

pub returns-in_err-open_number-clause-told : goal.returns-in_err-open_number-clause-told
returns-in_err-open_number-clause-told c =
    rw c.from_residual.ensures (λ all. c.in_err-open_number.ensures.told (all _ (place_is_among (record { 0 = [] }) c.args.names.now c.loop-name.name-index c.loop-name-test.true)))

pub returns-clause-open : goal.returns-clause-open
returns-clause-open c = λ name m.
    let k = among_place (record { 0 = [] }) name c.args.names.now m in
    let within : k.0 < c.loop-name.name-index = (let lt = k.1 in let over = c.loop-name-test.false in omega arith) in
    subst (λ (d : Digest). NamesBefore c.args.self.now c.args.slots.now c.loop-name.least d) k.2 (c.loop-name.invariant k.0 within)
