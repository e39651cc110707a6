use Rattle.hw_needs.proofs.TakenLaws.{evidence_taken}
use Rattle.hw_needs.proofs.laws.evidence_is_taken.Goals as goal

pub returns : goal.returns
returns c = evidence_taken
