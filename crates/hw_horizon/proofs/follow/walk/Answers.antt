use Rattle.std.proofs.Common.{sym, ◌∙◌, arith}
use Rattle.hw_horizon.specs.Bounds.{counts_over}
use Rattle.hw_horizon.proofs.LaneLaws.{lane_self, lane_above}
use Rattle.hw_horizon.proofs.FollowLaws.{root_first, known_first}
use Rattle.hw_horizon.proofs.follow.walk.Goals as goal

pub loop-tip-init : goal.loop-tip-init
loop-tip-init c = record { known = c.requires.tip_known; on_lane = lane_self c.args.question.now.dag.now c.args.question.now.asked.graph_is c.args.tip.0 c.requires.tip_known }

pub returns-then-is_known_from : goal.returns-then-is_known_from
returns-then-is_known_from c =
    let i = c.loop-tip.invariant in
    let back = c.back-no.ensures in
    known_first c.args.question.now.dag.now c.args.question.now.asked.graph_is c.args.tip.0 c.requires.tip_known (counts_over c.args.question.now.weights.now c.args.question.now.dag.now c.args.question.now.block.0 c.args.question.now.quorum c.args.is_votes c.args.lower.now.firsts) c.back-no.result.0 c.args.known.first back.known
    (lane_above c.args.question.now.dag.now c.args.question.now.asked.graph_is c.args.tip.0 c.back-no.result.0 c.loop-tip.first.0 back.known i.known back.on_lane i.on_lane)
    (c.is_known_from.ensures.earlier c.if-is_known_from.true)
    (c.requires.kept c.back-no.result (c.is_known_from.ensures.kept c.if-is_known_from.true) (c.is_known_from.ensures.low c.if-is_known_from.true))

pub bisect-requires-clause-gap : goal.bisect-requires-clause-gap
bisect-requires-clause-gap c =
    let i = c.loop-tip.invariant in
    let back = c.back-no.ensures in
    record {
      last_known = back.known;
      last_on_lane = lane_above c.args.question.now.dag.now c.args.question.now.asked.graph_is c.args.tip.0 c.back-no.result.0 c.loop-tip.first.0 back.known i.known back.on_lane i.on_lane;
      first_known = i.known;
      first_on_lane = i.on_lane;
      order = back.before;
      fails = sym c.counts.ensures ∙ c.if-not-counts.true;
    }

pub loop-tip-preserved : goal.loop-tip-preserved
loop-tip-preserved c =
    let i = c.loop-tip.invariant in
    let back = c.back-no.ensures in
    record {
      known = back.known;
      on_lane = lane_above c.args.question.now.dag.now c.args.question.now.asked.graph_is c.args.tip.0 c.back-no.result.0 c.loop-tip.first.0 back.known i.known back.on_lane i.on_lane;
    }

pub returns : goal.returns
returns c =
    let i = c.loop-tip.invariant in
    let seq = c.seq_of.ensures in
    let none = c.loop-tip-test.false in
    root_first c.args.question.now.dag.now c.args.question.now.asked.graph_is c.args.tip.0 c.requires.tip_known (counts_over c.args.question.now.weights.now c.args.question.now.dag.now c.args.question.now.block.0 c.args.question.now.quorum c.args.is_votes c.args.lower.now.firsts) c.loop-tip.first.0 i.known i.on_lane (omega arith)
