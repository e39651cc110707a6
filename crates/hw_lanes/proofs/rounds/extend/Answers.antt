use Rattle.std.proofs.Common.{◌+◌, ◌%◌}
use Rattle.hw_lanes.proofs.Columns.{column-set, slice_index-column}
use Rattle.hw_lanes.proofs.rounds.extend.Goals as goal

pub returns : goal.returns
returns c =
    let w = c.args.w.now in
    let t = c.args.t in
    record {
      word = λ j h.
          rw (
            slice_index-column w j ((t + 14) % 16),
            slice_index-column w j ((t + 9) % 16),
            slice_index-column w j ((t + 1) % 16),
            slice_index-column w j (t % 16),
            c.add-word.ensures j h,
            c.add.ensures j h,
            c.small_sigma0.ensures j h,
            c.add-recent.ensures j h,
            c.small_sigma1.ensures j h,
          );
      kept = λ j. column-set w j (t % 16) _;
    }
