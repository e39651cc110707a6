use Rattle.std.proofs.Common.{◌≡◌, ◌+◌, ◌-◌, ◌≤◌, ◌++◌, length, vec_capacity}
use Rattle.std.specs.List.{range_with_len}
use Rattle.hw_replay.proofs.fanout.number.Given as goal

abbrev pub invariant-loop-place : goal.invariant-loop-place
invariant-loop-place l = record {
  placed : l.places.items ≡ l.initial.places.items ++ range_with_len l.from (l.place - l.from);
  room : length l.places.items + (l.to - l.place) ≤ vec_capacity l.places;
}
