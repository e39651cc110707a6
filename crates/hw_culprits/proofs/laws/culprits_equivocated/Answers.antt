use Rattle.hw_culprits.proofs.PairLaws.{pair_is, culprit_shows, culprits_show}
use Rattle.hw_culprits.proofs.laws.culprits_equivocated.Goals as goal

pub returns-clause-pair : goal.returns-clause-pair
returns-clause-pair c = pair_is

pub returns-clause-each : goal.returns-clause-each
returns-clause-each c = culprit_shows

pub returns-clause-all : goal.returns-clause-all
returns-clause-all c = culprits_show
