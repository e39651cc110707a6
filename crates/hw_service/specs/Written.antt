-- What a call of the output did.
-- Source: ours.
use Rattle.std.specs.Prelude.{◌≡◌, List, ℕ, Option, Some, Result, Ok, Err}
use Rattle.std.specs.Io.KnownBytes.{Appends}
use Rattle.hw_io.specs.Sinks.{AppendsPrefix}
use Rattle.hw_session.specs.declared.node.ClashUnits.{ClashUnits}
use Rattle.hw_service.specs.declared.fault.ServiceFault.{ServiceFault}
use Rattle.hw_service.specs.declared.fault.ServiceFault.TheVariants as fault

-- all of it was written, or after a fault a first part
abbrev pub Writes : {T : Type 0} → Option (List ℕ) → Option (List ℕ) → List ℕ → Result T ServiceFault → Type 0
Writes old new bytes (Ok x) = Appends old new bytes
Writes old new bytes (Err e) = AppendsPrefix old new bytes

-- a write failed, or memory ran out
abbrev pub IsOfOutput : ServiceFault → Type 0
IsOfOutput fault.Write = Unit {0}
IsOfOutput fault.OutOfMemory = Unit {0}
IsOfOutput e = ⊥

-- the clash is answered as it is kept, or memory ran out
abbrev pub TellsClash : Option ClashUnits → ServiceFault → Type 0
TellsClash kept (fault.Clash units) = kept ≡ Some units
TellsClash kept fault.OutOfMemory = Unit {0}
TellsClash kept e = ⊥
