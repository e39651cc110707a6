use Rattle.std.proofs.Common.{◌≡◌, ◌≤◌, length, take}
use Rattle.hw_types.specs.Settled.{unit_needs}
use Rattle.hw_core.specs.Missing.{is_met_in, unmet}
use Rattle.hw_core.proofs.unmet.unmet_units.Given as goal

-- so many are missing of the slots so far, and the place isn't among them
abbrev pub invariant-loop-slot : goal.invariant-loop-slot
invariant-loop-slot l = (length (unmet (is_met_in l.state) (unit_needs (take l.slot l.panorama))) ≡ l.count) × (l.count ≤ l.place)
