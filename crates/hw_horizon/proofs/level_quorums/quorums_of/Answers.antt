use Rattle.std.proofs.Common.{sym, subst, ◌+◌, ◌≤◌, ◌<◌, ◌^◌, arith}
use Rattle.hw_types.specs.Quorum.{IsQuorum}
use Rattle.hw_horizon.proofs.LevelLaws.{quorum_limits, quorums_more}
use Rattle.hw_horizon.proofs.level_quorums.quorums_of.Goals as goal

pub quorum-requires-clause-some : goal.quorum-requires-clause-some
quorum-requires-clause-some c = let limits = quorum_limits c.args.config.now c.requires in subst (λ n. 1 ≤ n) (sym c.total-total.ensures) limits.0

pub quorum-requires-clause-small : goal.quorum-requires-clause-small
quorum-requires-clause-small c = let limits = quorum_limits c.args.config.now c.requires in subst (λ n. n < 2 ^ 62) (sym c.total-total.ensures) limits.1

pub quorum-requires-clause-below : goal.quorum-requires-clause-below
quorum-requires-clause-below c = let limits = quorum_limits c.args.config.now c.requires in subst (λ n. c.args.config.now.ftt < n) (sym c.total-total.ensures) limits.2

pub quorum-requires-clause-high : goal.quorum-requires-clause-high
quorum-requires-clause-high c =
    let limits = quorum_limits c.args.config.now c.requires in
    let high = limits.4 in
    let less = c.loop-below-test.true in
    let from = c.from-below-end.ensures in
    omega arith

pub loop-below-preserved : goal.loop-below-preserved
loop-below-preserved c =
    let more = quorums_more c.args.config.now c.loop-below.quorums.items c.push.new.self.items c.loop-below.below c.quorum.result c.loop-below.invariant.count c.loop-below.invariant.each c.in_ok-push.ensures.items
    (subst (λ n. IsQuorum n c.args.config.now.ftt (c.loop-below.below + 1) c.quorum.result) c.total-total.ensures c.quorum.ensures) in
    record { count = more.0; each = more.1 }

pub returns : goal.returns
returns c =
    let limits = quorum_limits c.args.config.now c.requires in
    let some = limits.3 in
    let end = c.loop-below-test.false in
    let upto = c.loop-below.auto.below-end in
    let from = c.from-below-end.ensures in
    let count = c.loop-below.invariant.count in
    record { some = omega arith; length_is = omega arith; each = c.loop-below.invariant.each }
