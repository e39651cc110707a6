use Rattle.std.proofs.Common.{refl}
use Rattle.hw_types.specs.Settled.{is_endorsed}
use Rattle.hw_endorse.proofs.laws.majority_is_endorsed.Goals as goal

pub returns : goal.returns
unfolding is_endorsed
returns c = λ config received d. refl
