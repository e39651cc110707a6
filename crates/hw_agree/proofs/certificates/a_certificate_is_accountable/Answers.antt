use Rattle.hw_agree.proofs.CertificateLaws.{decided, accountable}
use Rattle.hw_agree.proofs.certificates.a_certificate_is_accountable.Goals as goal

pub returns-clause-decided : goal.returns-clause-decided
returns-clause-decided c = decided

pub returns-clause-accountable : goal.returns-clause-accountable
returns-clause-accountable c = accountable
