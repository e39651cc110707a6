use Rattle.std.proofs.Common.{sym, ◌∙◌, arith}
use Rattle.hw_horizon.specs.Bounds.{counts_over}
use Rattle.hw_horizon.proofs.LaneLaws.{lane_above}
use Rattle.hw_horizon.proofs.FollowLaws.{gap_first}
use Rattle.hw_horizon.proofs.follow.bisect.Goals as goal

pub loop-dag-preserved-then-counts : goal.loop-dag-preserved-then-counts
loop-dag-preserved-then-counts c =
    let i = c.loop-dag.invariant in
    let back = c.back-no.ensures in
    let near = back.near c.half.ensures.some in
    let less = c.half.ensures.less in
    let high = c.seq_of-in-loop-dag-2.ensures in
    let low = c.seq_of-in-loop-dag-3.ensures in
    let order = i.order in
    record {
      last_known = i.last_known;
      last_on_lane = i.last_on_lane;
      first_known = back.known;
      first_on_lane = lane_above c.args.question.now.dag.now c.args.question.now.asked.graph_is c.args.tip.0 c.back-no.result.0 c.loop-dag.first.0 back.known i.first_known back.on_lane i.first_on_lane;
      order = omega arith;
      fails = i.fails;
    }

pub loop-dag-preserved : goal.loop-dag-preserved
loop-dag-preserved c =
    let i = c.loop-dag.invariant in
    let back = c.back-no.ensures in
    record {
      last_known = back.known;
      last_on_lane = lane_above c.args.question.now.dag.now c.args.question.now.asked.graph_is c.args.tip.0 c.back-no.result.0 c.loop-dag.first.0 back.known i.first_known back.on_lane i.first_on_lane;
      first_known = i.first_known;
      first_on_lane = i.first_on_lane;
      order = back.before;
      fails = sym c.counts.ensures ∙ c.if-counts.false;
    }

pub returns : goal.returns
returns c =
    let high = c.seq_of.ensures in
    let low = c.seq_of-in-loop-dag.ensures in
    let near = c.loop-dag-test.false in
    gap_first c.args.question.now.dag.now c.args.question.now.asked.graph_is c.args.tip.0 c.requires.tip_known (counts_over c.args.question.now.weights.now c.args.question.now.dag.now c.args.question.now.block.0 c.args.question.now.quorum c.args.is_votes c.args.lower.now.firsts) c.loop-dag.last.0 c.loop-dag.first.0 c.loop-dag.invariant (omega arith)
