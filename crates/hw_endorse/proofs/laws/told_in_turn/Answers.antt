use Rattle.hw_endorse.proofs.PairLaws.{told_turn}
use Rattle.hw_endorse.proofs.laws.told_in_turn.Goals as goal

pub returns : goal.returns
returns c = told_turn
