use Rattle.hw_theorem.proofs.DrawnLaws.{first_is_found}
use Rattle.hw_theorem.proofs.a_leader_is_found.Goals as goal

pub returns : goal.returns
returns c = first_is_found
