use Rattle.std.proofs.Common.{arith}
use Rattle.hw_horizon.proofs.horizons.tables_of.Goals as goal

pub returns : goal.returns
returns c =
    let i = c.loop.invariant in
    let count = i.count in
    let upto = c.loop.auto.counter-end in
    let end = c.loop-test.false in
    record { length_is = omega arith; each = i.each }
