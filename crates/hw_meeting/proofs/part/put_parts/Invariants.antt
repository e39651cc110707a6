use Rattle.std.proofs.Common.{◌≡◌, ◌++◌, length, take}
use Rattle.std.specs.Int.{w32, to_be_bytes}
use Rattle.std.specs.List.{flat_map}
use Rattle.hw_meeting.specs.Frames.{part_bytes}
use Rattle.hw_meeting.proofs.part.put_parts.Given as goal

abbrev pub invariant-loop-part : goal.invariant-loop-part
invariant-loop-part l = l.out.items ≡ l.fn.out.items ++ (to_be_bytes w32 (length l.parts) ++ flat_map part_bytes (take l.part-index l.parts))
