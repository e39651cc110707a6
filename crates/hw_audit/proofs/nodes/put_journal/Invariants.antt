use Rattle.std.proofs.Common.{◌≡◌, ◌++◌, take, drop}
use Rattle.hw_types.specs.Real.{settled_in}
use Rattle.hw_core.specs.Readers.{names_of}
use Rattle.hw_audit.specs.Held.{held_units}
use Rattle.hw_audit.proofs.nodes.put_journal.Given as goal

abbrev pub invariant-loop-place : goal.invariant-loop-place
invariant-loop-place l =
    (l.units.items ≡ l.initial.units.items ++ held_units (settled_in l.core) (take l.place l.core.journal))
    × (l.names ≡ names_of (drop l.place l.core.journal))
