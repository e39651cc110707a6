use Rattle.hw_culprits.proofs.InnocenceLaws.{not_named, light, agree}
use Rattle.hw_culprits.proofs.laws.who_sign_once_agree.Goals as goal

pub returns-clause-named : goal.returns-clause-named
returns-clause-named c = not_named

pub returns-clause-weigh : goal.returns-clause-weigh
returns-clause-weigh c = light

pub returns-clause-agree : goal.returns-clause-agree
returns-clause-agree c = agree
