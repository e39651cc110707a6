use Rattle.hw_client.proofs.HostingLaws.{never, goes_on}
use Rattle.hw_client.proofs.owner.hosts_never_equivocate.Goals as goal

pub returns-clause-never : goal.returns-clause-never
returns-clause-never c = never

pub returns-clause-log : goal.returns-clause-log
returns-clause-log c = goes_on
