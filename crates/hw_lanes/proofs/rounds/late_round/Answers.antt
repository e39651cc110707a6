use Rattle.std.proofs.Common.{refl}
use Rattle.sha2.proofs.Schedule256.{rounds_window}
use Rattle.hw_lanes.specs.Columns.{column}
use Rattle.hw_lanes.proofs.rounds.late_round.Goals as goal

pub returns : goal.returns
returns c j lane b h held =
    rounds_window b h (column c.args.w.now j) (column c.args.v j) c.args.t _ _ _ _ c.requires.from c.requires.below held.0 held.1
    (c.extend-word.ensures.word j lane) (c.extend-word.ensures.kept j) refl (c.round.ensures j lane)
