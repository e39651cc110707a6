use Rattle.std.proofs.Common.{take}
use Rattle.hw_audit.specs.Clashes.{AreKnown}
use Rattle.hw_audit.proofs.clash.known_units.Given as goal

abbrev pub invariant-loop-unit : goal.invariant-loop-unit
invariant-loop-unit l = AreKnown l.known.entries (take l.unit-index l.units)
