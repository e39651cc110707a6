use Rattle.std.proofs.Common.{◌≡◌, ◌<◌, length, sym, ◌∙◌, arith}
use Rattle.std.specs.Prelude.{Some, slice_get}
use Rattle.hw_types.specs.declared.unit.Obs.TheVariants.{Absent, Correct}
use Rattle.hw_types.specs.Graph.{slot}
use Rattle.hw_core.specs.Missing.{is_met_in}
use Rattle.hw_core.proofs.UnmetLaws.{get_of, not_correct, units_other, units_more, units_skip, units_found}
use Rattle.hw_core.proofs.unmet.unmet_units.Goals as goal
use Rattle.hw_core.proofs.unmet.unmet_units.Goals.{in-Correct+then-is_wanted_unit+else-count-place, in-Correct+else-is_wanted_unit, in_default}

pub returns-then-count-place : goal.returns-then-count-place
returns-then-count-place c =
    let panorama = c.args.panorama.now in
    let k = c.loop-slot.slot in
    let lt : k < length panorama = c.loop-slot-test.true in
    let d = c.in-Correct.digest in
    let at : slice_get panorama k ≡ Some (Correct d) = get_of panorama k Absent lt ∙ (λ i. Some (c.in-Correct.is i)) in
    let same = c.if-count-place.true in
    let long = c.loop-slot.invariant.0 in
    units_found (is_met_in c.args.state.now) panorama k lt d at c.args.place (sym c.is_wanted_unit.ensures ∙ c.if-is_wanted_unit.true) (omega arith)

pub loop-slot-preserved : goal.loop-slot-preserved
loop-slot-preserved c =
    let met = is_met_in c.args.state.now in
    let panorama = c.args.panorama.now in
    let k = c.loop-slot.slot in
    let lt : k < length panorama = c.loop-slot-test.true in
    let long = c.loop-slot.invariant.0 in
    let within = c.loop-slot.invariant.1 in
    elim c.match-obs.branch [
      | in-Correct+then-is_wanted_unit+else-count-place w ↦
          (let at : slice_get panorama k ≡ Some (Correct w.in-Correct.digest) = get_of panorama k Absent lt ∙ (λ i. Some (w.in-Correct.is i)) in
          let more = units_more met panorama k lt w.in-Correct.digest at (sym w.is_wanted_unit.ensures ∙ w.if-is_wanted_unit.true) in
          let count = w.count-is in
          let other = w.if-count-place.false in
          (omega arith, omega arith))
      | in-Correct+else-is_wanted_unit w ↦
          (let at : slice_get panorama k ≡ Some (Correct w.in-Correct.digest) = get_of panorama k Absent lt ∙ (λ i. Some (w.in-Correct.is i)) in
          let same = units_skip met panorama k lt w.in-Correct.digest at (sym w.is_wanted_unit.ensures ∙ w.if-is_wanted_unit.false) in
          let count = w.count-is in
          (omega arith, omega arith))
      | in_default w ↦
          (let same = units_other met panorama k lt (slot panorama k) (get_of panorama k Absent lt) (not_correct (slot panorama k) w.in_default.not-Correct) in
          let count = w.count-is in
          (omega arith, omega arith))
    ]
