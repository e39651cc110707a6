use Rattle.std.proofs.Common.{◌+◌, ◌-◌, ◌%◌, refl, length, arith}
use Rattle.hw_cluster.proofs.ShuffleLaws.{shuffling_more, shuffling_all}
use Rattle.hw_cluster.proofs.order.shuffle.Goals as goal

pub loop-done-preserved : goal.loop-done-preserved
loop-done-preserved c =
    let last = length c.args.units.now - 1 in
    shuffling_more c.args.words.now.key c.args.words.now.place last c.args.units.now c.loop-done.words c.next.new.self c.loop-done.done c.next.result (last - c.loop-done.done) (c.next.result % (last - c.loop-done.done + 1))
    c.loop-done.units c.swap.new.self c.loop-done-test.true (let same = c.loop-done.auto.units in let some = c.requires.some in omega arith) refl refl c.next.ensures.word c.next.ensures.next c.swap.ensures.after c.loop-done.invariant

pub returns-clause-units : goal.returns-clause-units
returns-clause-units c =
    shuffling_all c.args.words.now.key c.args.words.now.place (length c.args.units.now - 1) c.args.units.now c.loop-done.words c.loop-done.done c.loop-done.units c.loop-done-test.false c.loop-done.invariant
