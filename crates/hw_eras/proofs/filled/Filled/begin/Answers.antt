use Rattle.hw_eras.proofs.LogLaws.{made_again}
use Rattle.hw_eras.proofs.filled.Filled.begin.Goals as goal

pub first-requires : goal.first-requires
first-requires g c = made_again _ c.in-Ok.ensures.reached
