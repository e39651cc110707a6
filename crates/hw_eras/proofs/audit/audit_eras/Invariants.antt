use Rattle.hw_eras.proofs.AuditLaws.{Audited}
use Rattle.hw_eras.proofs.audit.audit_eras.Given as goal

abbrev pub invariant-loop-era : goal.invariant-loop-era
invariant-loop-era l = Audited l.left l.right l.era l.common
