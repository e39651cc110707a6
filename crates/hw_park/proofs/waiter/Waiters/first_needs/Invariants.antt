use Rattle.std.proofs.Common.{◌≡◌, ◌≤◌, [], length, take}
use Rattle.hw_park.specs.First.{with_firsts, needs_of_places}
use Rattle.hw_park.specs.Numbers.{numbers_at}
use Rattle.hw_park.proofs.FoundLaws.{AreFound}
use Rattle.hw_park.proofs.waiter.Waiters.first_needs.Given as goal

-- with the places that are left it is the whole list, and each of its needs is the table's
abbrev pub invariant-loop-place : goal.invariant-loop-place
invariant-loop-place g l = record {
  within : l.filled ≤ length l.list;
  long : length l.list ≡ length l.initial.list;
  put : with_firsts (length l.initial.list) (take l.filled l.list) (needs_of_places (record { places = l.self-inside.places.entries; slots = l.self-inside.items.slots }) (numbers_at l.waits.entries) l.place-iterator)
      ≡ with_firsts (length l.initial.list) [] (needs_of_places (record { places = l.self-inside.places.entries; slots = l.self-inside.items.slots }) (numbers_at l.waits.entries) l.initial.place-iterator);
  found : AreFound l.waits.entries (take l.filled l.list);
}
