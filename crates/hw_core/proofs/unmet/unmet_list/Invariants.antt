use Rattle.std.proofs.Common.{◌≡◌, ◌≤◌, ◌++◌, length, map, take}
use Rattle.hw_types.specs.declared.unit.Need.TheVariants as need
use Rattle.hw_types.specs.Settled.{unit_needs, evidence_needs}
use Rattle.hw_core.specs.Missing.{is_met_in, unmet}
use Rattle.hw_core.proofs.unmet.unmet_list.Given as goal

-- so many are missing of the slots and of the list so far, and the place isn't among them
abbrev pub invariant-loop-listed : goal.invariant-loop-listed
invariant-loop-listed l =
    (length (unmet (is_met_in l.state) (unit_needs l.unit.panorama ++ evidence_needs l.unit.panorama ++ map need.Endorsed (take l.listed l.unit.endorsed))) ≡ l.count) × (l.count ≤ l.place)
