use Rattle.std.proofs.Common.{refl, sym}
use Rattle.sha2.proofs.Schedule256.{rounds_first}
use Rattle.hw_lanes.specs.Columns.{column}
use Rattle.hw_lanes.proofs.Columns.{slice_index-column}
use Rattle.hw_lanes.proofs.rounds.early_round.Goals as goal

pub returns : goal.returns
returns c j lane b h window held =
    rounds_first b h (column c.args.w.now j) (column c.args.v j) c.args.t _ _ _ c.requires window held refl
    (sym (slice_index-column c.args.w.now j c.args.t)) (c.round.ensures j lane)
