use Rattle.std.proofs.Common.{◌≡◌, ◌≤◌, drop, length, take}
use Rattle.hw_park.specs.First.{with_firsts}
use Rattle.hw_park.specs.Held.{left_of}
use Rattle.hw_park.specs.Numbers.{numbers_at}
use Rattle.hw_park.proofs.first.put_left.Given as goal

-- with the needs that are to be put it is the whole list
abbrev pub invariant-loop-need : goal.invariant-loop-need
invariant-loop-need l = record {
  within : l.filled ≤ length l.list;
  long : length l.list ≡ length l.initial.list;
  put : with_firsts (length l.initial.list) (take l.filled l.list) (left_of (numbers_at l.waits.entries) l.place (drop l.need-index l.needs)) ≡ with_firsts (length l.initial.list) (take l.initial.filled l.initial.list) (left_of (numbers_at l.waits.entries) l.place l.needs);
}
