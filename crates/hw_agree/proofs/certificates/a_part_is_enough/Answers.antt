use Rattle.hw_agree.proofs.PartLaws.{is_enough}
use Rattle.hw_agree.proofs.ExtractLaws.{certifies}
use Rattle.hw_agree.proofs.certificates.a_part_is_enough.Goals as goal

pub returns-clause-enough : goal.returns-clause-enough
returns-clause-enough c = is_enough

pub returns-clause-certifies : goal.returns-clause-certifies
returns-clause-certifies c = certifies
