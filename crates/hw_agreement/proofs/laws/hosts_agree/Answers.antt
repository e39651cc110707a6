use Rattle.hw_agreement.proofs.LifeLaws.{signs_once, no_innocent, hosts_agree}
use Rattle.hw_agreement.proofs.laws.hosts_agree.Goals as goal

pub returns-clause-once : goal.returns-clause-once
returns-clause-once c = signs_once

pub returns-clause-named : goal.returns-clause-named
returns-clause-named c = no_innocent

pub returns-clause-agree : goal.returns-clause-agree
returns-clause-agree c = hosts_agree
