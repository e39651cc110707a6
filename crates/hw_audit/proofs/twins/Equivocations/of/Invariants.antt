use Rattle.std.proofs.Common.{◌≡◌, length, take}
use Rattle.hw_audit.specs.Twins.{AreNoted}
use Rattle.hw_audit.proofs.twins.Equivocations.of.Given as goal

abbrev pub invariant-loop-unit : goal.invariant-loop-unit
invariant-loop-unit l = record {
  noted : AreNoted l.equivocations.twins.entries l.equivocations.least.items (take l.unit-index l.units);
  validators : length l.equivocations.least.items ≡ l.validators;
}
