use Rattle.std.proofs.Common.{◌≡◌, take}
use Rattle.std.specs.BinaryHeap.{heap_items, heap_len, heap_capacity}
use Rattle.hw_park.specs.Held.{ready_at}
use Rattle.hw_park.specs.Kept.{IsQueueOf}
use Rattle.hw_park.proofs.StruckLaws.{IsStruck}
use Rattle.hw_park.proofs.park.Park.met.Given as goal

abbrev pub invariant-loop-place : goal.invariant-loop-place
invariant-loop-place g l = record {
  limit : l.self-inside.limit ≡ l.initial.self-inside.limit;
  count : l.self-inside.count ≡ l.initial.self-inside.count;
  next : l.self-inside.next ≡ l.initial.self-inside.next;
  waits : l.self-inside.waits ≡ l.initial.self-inside.waits;
  struck : IsStruck l.initial.self-inside.waiters l.self-inside.waiters (take l.place-index l.place-items);
  queue : IsQueueOf (ready_at l.self-inside.waiters) l.initial.self-inside.next (heap_items l.self-inside.ready) (heap_len l.self-inside.ready) (heap_capacity l.self-inside.ready);
}
