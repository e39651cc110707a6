use Rattle.std.proofs.Common.{refl, sym, ap, ◌∙◌, arith}
use Rattle.hw_dag.specs.Dag.{SettledUnit}
use Rattle.hw_horizon.specs.Firsts.{has_quorum}
use Rattle.hw_horizon.proofs.SearchLaws.{searched_first, searched_down}
use Rattle.hw_horizon.proofs.quorums.quorum_start.Goals as goal

pub loop-low-init : goal.loop-low-init
loop-low-init c =
    let last = c.signed.ensures ∙ ap (λ (u : SettledUnit). u.signed) c.unit.ensures in
    searched_first c.args.question.now.dag.now c.args.question.now.asked.graph_is c.args.tip.0 c.args.floor c.requires.known (has_quorum c.args.question.now.weights.now c.args.question.now.dag.now c.args.question.now.quorum c.args.firsts.now) c.requires.suffix
    c.args.floor c.signed.result.now.unit.seq refl (ap (λ s. s.unit.seq) last) c.if-last-floor.false

pub loop-low-preserved-then-has_quorum : goal.loop-low-preserved-then-has_quorum
loop-low-preserved-then-has_quorum c =
    let less = c.loop-low-test.true in
    searched_down c.args.question.now.dag.now c.args.question.now.asked.graph_is c.args.tip.0 c.args.floor c.requires.known (has_quorum c.args.question.now.weights.now c.args.question.now.dag.now c.args.question.now.quorum c.args.firsts.now) c.requires.suffix
    c.loop-low.low c.loop-low.high _ c.unit_on_lane-no.result.0 c.loop-low.invariant (omega arith) (omega arith) c.unit_on_lane-no.ensures (sym c.has_quorum.ensures ∙ c.if-has_quorum.true)
