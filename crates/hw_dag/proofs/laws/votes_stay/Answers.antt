use Rattle.hw_dag.proofs.VoteLaws.{votes_stay}
use Rattle.hw_dag.proofs.laws.votes_stay.Goals as goal

pub returns : goal.returns
returns c = votes_stay
