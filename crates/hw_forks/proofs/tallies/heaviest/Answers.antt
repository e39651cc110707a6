use Rattle.std.proofs.Common.{◌+◌, ◌<◌, ◌^◌, length, get_or, ap, arith}
use Rattle.hw_dag.specs.declared.numbers.UnitNo.{UnitNo}
use Rattle.hw_forks.proofs.ShareLaws.{no_share, tallied_first, share_is, tallied_fits, tallied_more}
use Rattle.hw_forks.proofs.tallies.heaviest.Goals as goal

pub loop-share-init : goal.loop-share-init
loop-share-init c = tallied_first c.args.dag.now c.args.shares.now

pub add-tally-requires : goal.add-tally-requires
add-tally-requires c =
    let lt : c.loop-share.share-index < length c.args.shares.now = omega arith in
    let fits = tallied_fits c.args.dag.now c.args.shares.now c.requires.shares c.loop-share.share-index lt c.loop-share.tally c.loop-share.best c.loop-share.invariant in
    record { bounded = (let all : c.loop-share.tally.weight + (get_or c.args.shares.now c.loop-share.share-index no_share).weight < 2 ^ 64 = omega arith in omega (arith, all)) }

pub heavier-requires-clause-tally_known : goal.heavier-requires-clause-tally_known
heavier-requires-clause-tally_known c =
    let lt : c.loop-share.share-index < length c.args.shares.now = omega arith in
    let known = (share_is c.args.dag.now c.args.shares.now c.requires.shares c.loop-share.share-index lt).0 in
    let same = ap (λ (n : UnitNo). n.0) c.add-tally.ensures.child in
    omega arith

pub loop-share-preserved : goal.loop-share-preserved
loop-share-preserved c =
    let lt : c.loop-share.share-index < length c.args.shares.now = omega arith in
    tallied_more c.args.dag.now c.args.shares.now c.requires.shares c.loop-share.share-index lt c.loop-share.tally c.loop-share.best c.loop-share.invariant c.requires.sorted
    c.add-tally.result c.heavier.result c.add-tally.ensures.child c.add-tally.ensures.weight c.heavier.ensures
