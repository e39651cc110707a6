use Rattle.hw_agreement.proofs.ReportLaws.{audits_accuse, checks_accuse, era_audits_accuse}
use Rattle.hw_agreement.proofs.laws.reports_accuse_rightly.Goals as goal

pub returns-clause-audit : goal.returns-clause-audit
returns-clause-audit c = audits_accuse

pub returns-clause-check : goal.returns-clause-check
returns-clause-check c = checks_accuse

pub returns-clause-era_audit : goal.returns-clause-era_audit
returns-clause-era_audit c = era_audits_accuse
