use Rattle.std.proofs.Common.{◌≡◌, ◌++◌, length, take}
use Rattle.std.specs.Int.{w32, to_be_bytes}
use Rattle.std.specs.List.{flat_map}
use Rattle.hw_codec.specs.Compact.{change_bytes}
use Rattle.hw_codec.proofs.compact.put_changes.Given as goal

abbrev pub invariant-loop-change : goal.invariant-loop-change
invariant-loop-change l = l.out.items ≡ l.fn.out.items ++ (to_be_bytes w32 (length l.changes) ++ flat_map change_bytes (take l.change-index l.change-items))
