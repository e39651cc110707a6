use Rattle.std.proofs.Common.{◌≡◌, ◌+◌, ◌-◌, ◌<◌, take, length, sym, subst, arith}
use Rattle.hw_park.specs.Numbers.{HasRegistered}
use Rattle.hw_park.proofs.NumberLaws.{registered-less, registered-same, registered-not}
use Rattle.hw_park.proofs.waits.withdraw.Goals as goal

pub loop-index-preserved : goal.loop-index-preserved
loop-index-preserved c = λ before place registered.
    let i = c.loop-index.index in
    let e : i - 1 + 1 ≡ i = omega (arith, c.loop-index-test.true) in
    let auto = c.loop-index.auto.index in
    let within : i - 1 < length c.args.needs.now = omega (arith, c.loop-index-test.true, auto) in
    registered-same before c.take_last.new.waits.entries c.drop_empty.new.waits.entries (take (i - 1) c.args.needs.now) place
    (registered-less before c.loop-index.waits.entries c.take_last.new.waits.entries c.args.needs.now (i - 1) place _ within
    (subst (λ k. HasRegistered before c.loop-index.waits.entries (take k c.args.needs.now) place) (sym e) (c.loop-index.invariant before place registered)) c.take_last.ensures.last c.take_last.ensures.others)
    c.drop_empty.ensures

pub returns : goal.returns
returns c = λ before place registered.
    let done : c.loop-index.index ≡ 0 = omega (arith, c.loop-index-test.false) in
    registered-not before c.loop-index.waits.entries place
    (subst (λ k. HasRegistered before c.loop-index.waits.entries (take k c.args.needs.now) place) done (c.loop-index.invariant before place registered))
