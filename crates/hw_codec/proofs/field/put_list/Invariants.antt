use Rattle.std.proofs.Common.{◌≡◌, ◌++◌, length, take}
use Rattle.std.specs.Int.{w32, to_be_bytes}
use Rattle.std.specs.List.{flat_map}
use Rattle.hw_codec.proofs.field.put_list.Given as goal

abbrev pub invariant-loop-item : goal.invariant-loop-item
invariant-loop-item g l = l.out.items ≡ l.fn.out.items ++ (to_be_bytes w32 (length l.list) ++ flat_map g.F.Field.spelling (take l.item-index l.list))
