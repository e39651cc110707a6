use Rattle.std.proofs.Common.{◌≡◌, drop}
use Rattle.hw_audit.specs.Clashes.{first_clash}
use Rattle.hw_audit.proofs.clash.first_clash.Given as goal

abbrev pub invariant-loop-unit : goal.invariant-loop-unit
invariant-loop-unit l = first_clash l.left l.right ≡ first_clash l.left (drop l.unit-index l.right)
