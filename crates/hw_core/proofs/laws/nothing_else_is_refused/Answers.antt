use Rattle.hw_core.proofs.PromiseLaws.{whole_admitted, lacking_parked, endorsement_admitted, evidence_admitted, only_memory}
use Rattle.hw_core.proofs.laws.nothing_else_is_refused.Goals as goal

pub returns-clause-admitted : goal.returns-clause-admitted
returns-clause-admitted c = whole_admitted

pub returns-clause-parked : goal.returns-clause-parked
returns-clause-parked c = lacking_parked

pub returns-clause-endorsement : goal.returns-clause-endorsement
returns-clause-endorsement c = endorsement_admitted

pub returns-clause-evidence : goal.returns-clause-evidence
returns-clause-evidence c = evidence_admitted

pub returns-clause-memory : goal.returns-clause-memory
returns-clause-memory c = only_memory
