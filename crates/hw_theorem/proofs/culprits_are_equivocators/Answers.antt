use Rattle.hw_theorem.proofs.EquivocatorLaws.{culprits_are}
use Rattle.hw_theorem.proofs.culprits_are_equivocators.Goals as goal

pub returns : goal.returns
returns c = culprits_are
