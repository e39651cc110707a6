use Rattle.std.proofs.Common.{◌≡◌, ◌<◌, ◌+◌, ℕ, List, length, slice_set, sym, ap, subst, ◌∙◌, arith}
use Rattle.hw_types.specs.declared.unit.SignedUnit.{SignedUnit}
use Rattle.hw_dag.specs.declared.numbers.View.{View}
use Rattle.hw_dag.specs.Dag.{SettledUnit, unit_at, creator_of, view_at}
use Rattle.hw_naivety.specs.Tips.{LanesAre}
use Rattle.hw_naivety.proofs.TipLaws.{IsFollowed, follow_first, follow_next, lanes_follow}
use Rattle.hw_naivety.proofs.tracker.follow.Goals.{in-Absent, in-Correct, in-Correct-2-2, in-Correct-2}
use Rattle.hw_naivety.proofs.tracker.follow.Goals as goal

pub returns-clause-lanes : goal.returns-clause-lanes
returns-clause-lanes c =
    let dag = c.args.dag.now in
    let g = c.requires.graph in
    let creator : c.signed.result.now.unit.creator ≡ creator_of (unit_at c.args.dag.now c.args.no.0) = ap (λ (s : SignedUnit). s.unit.creator) c.signed.ensures ∙ ap (λ (u : SettledUnit). creator_of u) c.unit.ensures in
    let room : creator_of (unit_at c.args.dag.now c.args.no.0) < length c.args.lanes.now = (let less = (g.settled c.args.no.0 c.requires.known).creator_is in let slots = c.requires.slots in omega arith) in
    let here : view_at c.args.lanes.now (creator_of (unit_at c.args.dag.now c.args.no.0)) ≡ c.get.result = ap (λ (v : ℕ). view_at c.args.lanes.now v) (sym creator) ∙ sym c.get.ensures in
    let followed : IsFollowed c.args.dag.now g c.args.lanes.now c.args.no c.requires.known room c.requires.lanes c.match-get.lane = elim c.match-get.branch [
      | in-Absent w ↦ subst (λ (l : View). IsFollowed c.args.dag.now g c.args.lanes.now c.args.no c.requires.known room c.requires.lanes l) (sym w.lane-is)
          (follow_first c.args.dag.now g c.args.lanes.now c.args.no c.requires.known room c.requires.lanes (here ∙ w.in-Absent.is))
      | in-Correct w ↦ subst (λ (l : View). IsFollowed c.args.dag.now g c.args.lanes.now c.args.no c.requires.known room c.requires.lanes l) (sym w.lane-is)
          (follow_next c.args.dag.now g c.args.lanes.now c.args.no c.requires.known room c.requires.lanes w.in-Correct.last (here ∙ w.in-Correct.is) (sym w.on_lane.ensures ∙ w.if-on_lane.true))
      | in-Correct-2-2 w ↦ subst (λ (l : View). IsFollowed c.args.dag.now g c.args.lanes.now c.args.no c.requires.known room c.requires.lanes l) (sym w.lane-is) tt
      | in-Correct-2 w ↦ subst (λ (l : View). IsFollowed c.args.dag.now g c.args.lanes.now c.args.no c.requires.known room c.requires.lanes l) (sym w.lane-is) tt
    ] in
    let made = lanes_follow c.args.dag.now g c.args.lanes.now c.args.no c.requires.known room c.requires.lanes c.match-get.lane followed in
    subst (λ (ws : List View). LanesAre c.args.dag.now (c.args.no.0 + 1) ws)
    (ap (λ (v : ℕ). slice_set c.args.lanes.now v c.match-get.lane) (sym creator) ∙ sym c.set.ensures) made
