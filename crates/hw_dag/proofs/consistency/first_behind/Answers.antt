-- The first unit of a lane is the first one behind Absent, and the one that follows a unit of the lane the first one behind that.
use Rattle.std.proofs.Common.{ℕ, ◌+◌, sym, ap, subst, ◌∙◌}
use Rattle.hw_types.specs.declared.unit.SignedUnit.{SignedUnit}
use Rattle.hw_dag.specs.declared.numbers.View.{View}
use Rattle.hw_dag.specs.declared.numbers.View.TheVariants as view
use Rattle.hw_dag.specs.Dag.{SettledUnit, seq_of}
use Rattle.hw_dag.specs.Lanes.{IsLaneAt}
use Rattle.hw_dag.specs.Views.{IsViewOf, HaveSeenNoMore}
use Rattle.hw_dag.proofs.BehindLaws.{before_first, before_next}
use Rattle.hw_dag.proofs.consistency.first_behind.Goals as goal

pub returns-in-Correct-Absent : goal.returns-in-Correct-Absent
returns-in-Correct-Absent c =
    let k = c.in-Correct-Absent in
    let top = subst (λ (w : View). IsViewOf c.args.dag.now c.args.of w) k.is-0 c.requires.known in
    subst (λ (w : View). HaveSeenNoMore c.args.dag.now c.args.of w c.args.high c.unit_on_lane.result.0) (sym k.is-0)
    (subst (λ (w : View). HaveSeenNoMore c.args.dag.now c.args.of (view.Correct k.top) w c.unit_on_lane.result.0) (sym k.is-1)
    (before_first c.args.dag.now c.requires.graph c.args.of k.top c.unit_on_lane.result.0 top.0 c.unit_on_lane.ensures))

pub returns-then-on_lane_of : goal.returns-then-on_lane_of
returns-then-on_lane_of c =
    let k = c.in-Correct-Correct in
    let first = c.unit_on_lane-then-on_lane_of in
    let top = subst (λ (w : View). IsViewOf c.args.dag.now c.args.of w) k.is-0 c.requires.known in
    let low = subst (λ (w : View). IsViewOf c.args.dag.now c.args.of w) k.is-1 c.requires.high in
    let seq = ap (λ (s : SignedUnit). s.unit.seq) c.signed.ensures ∙ ap (λ (u : SettledUnit). seq_of u) c.unit.ensures in
    subst (λ (w : View). HaveSeenNoMore c.args.dag.now c.args.of w c.args.high first.result.0) (sym k.is-0)
    (subst (λ (w : View). HaveSeenNoMore c.args.dag.now c.args.of (view.Correct k.top) w first.result.0) (sym k.is-1)
    (before_next c.args.dag.now c.requires.graph c.args.of k.top k.low first.result.0 top.0 low.0 (sym c.on_lane_of.ensures ∙ c.if-on_lane_of.true)
    (subst (λ (n : ℕ). IsLaneAt c.args.dag.now k.top.0 (n + 1) first.result.0) seq first.ensures)))
