use Rattle.std.proofs.Common.{◌<◌, length, sym, ap, ◌∙◌, not, arith}
use Rattle.hw_types.specs.declared.config.Config.{Config}
use Rattle.hw_types.specs.Graph.{slot, is_faulty_mark}
use Rattle.hw_types.proofs.LimitLaws.{within_limits}
use Rattle.hw_core.specs.Missing.{is_met_in}
use Rattle.hw_core.proofs.MissingLaws.{unmarked}
use Rattle.hw_core.proofs.UnmetLaws.{marks_other, marks_more, marks_skip, marks_found}
use Rattle.hw_core.proofs.unmet.unmet_marks.Goals as goal
use Rattle.hw_core.proofs.unmet.unmet_marks.Goals.{in-Faulty+then-not-is_met+else-count-place, in-Faulty+else-not-is_met, in_default}

pub overflow_cast-validators : goal.overflow_cast-validators
overflow_cast-validators c =
    let few = (within_limits c.args.state.now.config c.config.ensures.lawful).few in
    let same = ap (λ (g : Config). length g.weights) c.config.ensures.config in
    let long = c.len-validators.ensures in
    omega arith

pub returns-then-count-place : goal.returns-then-count-place
returns-then-count-place c =
    let panorama = c.args.panorama.now in
    let v = c.loop-validator.validator in
    let same = ap (λ (g : Config). length g.weights) c.config.ensures.config in
    let long = c.len-validators.ensures in
    let many = c.requires.many in
    let below = c.loop-validator-test.true in
    let lt : v < length panorama = omega arith in
    let at = c.if-count-place.true in
    let so_far = c.loop-validator.invariant.0 in
    marks_found (is_met_in c.args.state.now) panorama v lt (ap is_faulty_mark c.in-Faulty.is) c.args.place (ap not (sym c.is_met.ensures) ∙ ap not c.if-not-is_met.true) (omega arith)

pub loop-validator-preserved : goal.loop-validator-preserved
loop-validator-preserved c =
    let met = is_met_in c.args.state.now in
    let panorama = c.args.panorama.now in
    let v = c.loop-validator.validator in
    let same = ap (λ (g : Config). length g.weights) c.config.ensures.config in
    let long = c.len-validators.ensures in
    let many = c.requires.many in
    let below = c.loop-validator-test.true in
    let lt : v < length panorama = omega arith in
    let so_far = c.loop-validator.invariant.0 in
    let within = c.loop-validator.invariant.1 in
    elim c.match-panorama-validator.branch [
      | in-Faulty+then-not-is_met+else-count-place w ↦
          (let more = marks_more met panorama v lt (ap is_faulty_mark w.in-Faulty.is) (ap not (sym w.is_met.ensures) ∙ ap not w.if-not-is_met.true) in
          let count = w.count-is in
          let other = w.if-count-place.false in
          (omega arith, omega arith))
      | in-Faulty+else-not-is_met w ↦
          (let skip = marks_skip met panorama v lt (ap is_faulty_mark w.in-Faulty.is) (ap not (sym w.is_met.ensures) ∙ ap not w.if-not-is_met.false) in
          let count = w.count-is in
          (omega arith, omega arith))
      | in_default w ↦
          (let other = marks_other met panorama v lt (unmarked (slot panorama v) w.in_default.not-Faulty) in
          let count = w.count-is in
          (omega arith, omega arith))
    ]
