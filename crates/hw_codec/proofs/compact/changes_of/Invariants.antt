use Rattle.std.proofs.Common.{◌≡◌, ◌≤◌, length, take}
use Rattle.hw_codec.specs.Compact.{changes_from}
use Rattle.hw_codec.proofs.compact.changes_of.Given as goal

abbrev pub invariant-loop-slot : goal.invariant-loop-slot
invariant-loop-slot l = record {
  made : l.changes ≡ changes_from l.creator 0 (take l.slot l.before) (take l.slot l.now);
  few : length l.changes ≤ l.slot;
}
