use Rattle.std.proofs.Common.{◌≡◌, ◌*◌, length, take}
use Rattle.std.specs.List.{All}
use Rattle.hw_codec.specs.Ranges.{AreBytesOf}
use Rattle.hw_keys.specs.Keys.{keys_text}
use Rattle.hw_keys.proofs.keys.Keys.in_lines.Given as goal

abbrev pub invariant-loop-index : goal.invariant-loop-index
invariant-loop-index l = record {
  each : All (AreBytesOf 32) l.keys.items;
  count : length l.keys.items ≡ l.index;
  is : keys_text l.keys.items ≡ take (65 * l.index) l.text;
}
