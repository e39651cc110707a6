use Rattle.std.proofs.Common.{◌-◌, length}
use Rattle.std.specs.Prelude.{All}
use Rattle.hw_lanes.specs.Pieces.{IsWithin}
use Rattle.hw_log.proofs.ahead.parts_from.Given as goal

abbrev pub invariant-entries : goal.invariant-entries
invariant-entries l = All (IsWithin (length l.bytes)) l.parts.items

abbrev pub decreases-entries : goal.decreases-entries
decreases-entries l = length l.bytes - l.at
