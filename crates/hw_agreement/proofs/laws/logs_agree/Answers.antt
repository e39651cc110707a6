use Rattle.hw_agreement.proofs.LogLaws.{logs_agree, nodes_agree, lives_agree}
use Rattle.hw_agreement.proofs.laws.logs_agree.Goals as goal

pub returns-clause-any : goal.returns-clause-any
returns-clause-any c = logs_agree

pub returns-clause-nodes : goal.returns-clause-nodes
returns-clause-nodes c = nodes_agree

pub returns-clause-lives : goal.returns-clause-lives
returns-clause-lives c = lives_agree
