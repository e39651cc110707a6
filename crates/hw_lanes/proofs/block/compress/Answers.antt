use Rattle.std.proofs.Common.{◌≡◌, refl, ap, ◌∙◌, arith}
use Rattle.sha2.specs.Sha256.{add_state, compress, rounds}
use Rattle.sha2.proofs.Schedule256.{IsRoundsAt_at}
use Rattle.hw_lanes.specs.Columns.{column, in_lane}
use Rattle.hw_lanes.proofs.block.compress.Goals as goal

pub schedule-init : goal.schedule-init
unfolding rounds
schedule-init c j lane =
    let b = in_lane c.args.p.now c.args.q.now c.args.r.now c.args.s.now j in
    let h = column c.args.state.now j in
    let window = c.first_words-w.ensures j lane in
    (window, c.early_rounds-v-2.ensures j lane b h window (c.early_rounds-v.ensures j lane b h window refl))

pub schedule-preserved : goal.schedule-preserved
schedule-preserved c j lane =
    let b = in_lane c.args.p.now c.args.q.now c.args.r.now c.args.s.now j in
    let h = column c.args.state.now j in
    let half = c.late_rounds-v.ensures j lane b h (c.schedule.invariant j lane) in
    IsRoundsAt_at b h _ _ _ _ (omega arith) (c.late_rounds-v-in-schedule.ensures j lane b h half)

pub returns : goal.returns
unfolding compress
returns c =
    let last : c.schedule.turn ≡ 4 = omega (arith, c.schedule.auto.turn-end (omega arith)) in
    record {
      taken = λ j lane e.
          c.add_state.ensures.taken j lane e
          ∙ ap (add_state (column c.args.state.now j)) (rw last at (c.schedule.invariant j lane).1);
      left = c.add_state.ensures.left;
    }
