use Rattle.std.proofs.Common.{refl}
use Rattle.hw_lanes.proofs.Lanes.{below_four}
use Rattle.hw_lanes.proofs.state.initial_state.Goals as goal

pub returns : goal.returns
returns c = below_four _ refl refl refl refl
