use Rattle.std.proofs.Common.{◌≡◌, length, map, take}
use Rattle.std.specs.Prelude.{All}
use Rattle.hw_lanes.specs.Pieces.{IsWithin}
use Rattle.hw_c.specs.Named.{unit_part}
use Rattle.hw_c.proofs.names.work_out.Given as goal

abbrev pub invariant-parts : goal.invariant-parts
invariant-parts l =
    (length l.parts ≡ length l.vertices) × (take l.k l.parts ≡ map (unit_part l.bytes) (take l.k l.vertices)) × All (IsWithin (length l.bytes)) (take l.k l.parts)
