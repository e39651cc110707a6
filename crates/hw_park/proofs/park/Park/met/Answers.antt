use Rattle.std.proofs.Common.{◌∙◌, sym, ap, refl, None, Some, [], List, subst, heap_items, heap_len}
use Rattle.std.specs.BinaryHeap.{heap_capacity}
use Rattle.std.proofs.lemmas.List.{take_all}
use Rattle.hw_park.specs.Parked.{Waiting}
use Rattle.hw_park.specs.Numbers.{numbers_at}
use Rattle.hw_park.specs.Held.{ready_at}
use Rattle.hw_park.proofs.ParkLaws.{on_ok}
use Rattle.hw_park.proofs.NumberLaws.{numbers_found}
use Rattle.hw_park.proofs.QueueLaws.{queue-same, queue-pushed, queue-room}
use Rattle.hw_park.proofs.StruckLaws.{IsStruck, cleared_of, struck_none, struck_more, listed_struck, kept_struck}
use Rattle.hw_park.proofs.park.Park.met.Goals as goal
use Rattle.hw_park.proofs.park.Park.met.Goals.{in-Some-strike, in_default-strike}

pub invariant_of-self : goal.invariant_of-self
invariant_of-self g c =
    let h = c.self.inside.waiters in
    kept_struck h h (numbers_at c.self.inside.waits.entries) (numbers_at c.remove.new.self.entries) c.args.need.now [] (struck_none h)
    (numbers_found c.self.inside.waits.entries c.key_of.result c.args.need.now None c.key_of.ensures (sym c.in_default.is ∙ c.remove.ensures.value))
    (cleared_of c.self.inside.waits.entries c.remove.new.self.entries c.key_of.result c.args.need.now c.key_of.ensures (record { at = c.remove.ensures.updates.0 }))
    c.self.inside.limit c.self.inside.count c.self.inside.next (heap_items c.self.inside.ready) (heap_items c.self.inside.ready)
    (heap_len c.self.inside.ready) (heap_capacity c.self.inside.ready) (heap_len c.self.inside.ready) (heap_capacity c.self.inside.ready) c.self.invariant c.self.invariant.queue

pub returns-in_default : goal.returns-in_default
returns-in_default g c =
    let h = c.self.inside.waiters in
    rw (← c.self.view_is)
    (ap (λ (ws : List (Waiting g.row.T.Denot)). record { limit = c.self.inside.limit; waiting = ws })
    (listed_struck h h (numbers_at c.self.inside.waits.entries) (numbers_at c.remove.new.self.entries) c.args.need.now [] (struck_none h)
    (numbers_found c.self.inside.waits.entries c.key_of.result c.args.need.now None c.key_of.ensures (sym c.in_default.is ∙ c.remove.ensures.value))
    (cleared_of c.self.inside.waits.entries c.remove.new.self.entries c.key_of.result c.args.need.now c.key_of.ensures (record { at = c.remove.ensures.updates.0 }))
    c.self.inside.next))

pub loop-place-init : goal.loop-place-init
loop-place-init g c = record {
  limit = refl;
  count = refl;
  next = refl;
  waits = refl;
  struck = struck_none c.self.inside.waiters;
  queue = c.self.invariant.queue;
}

pub loop-place-preserved : goal.loop-place-preserved
loop-place-preserved g c = elim c.match-strike.branch [
  | in-Some-strike w ↦
      let i = c.loop-place.invariant in
      let step = w.in-Some-strike.ensures.last in
      let now = ready_at c.loop-place.self-inside.waiters in
      let new = ready_at c.strike.new.self in
      let ready = heap_items c.loop-place.self-inside.ready in
      let ok = w.push.ensures.succeeds (queue-room now new w.in-Some-strike.number c.self.inside.next ready (heap_len c.loop-place.self-inside.ready) (heap_capacity c.loop-place.self-inside.ready) i.queue step) in
      rw w.self-inside-is (record {
        limit = i.limit;
        count = i.count;
        next = i.next;
        waits = i.waits;
        struck = struck_more c.self.inside.waiters c.loop-place.self-inside.waiters c.strike.new.self c.deref-place-items.result.now c.loop-place.place-index c.loop-place-test.true i.struck
            c.strike.ensures.places c.strike.ensures.slots;
        queue = queue-pushed now new w.in-Some-strike.number c.self.inside.next ready (heap_len c.loop-place.self-inside.ready) (heap_capacity c.loop-place.self-inside.ready) i.queue step
            _ _ (record { 0 = w.in-Some-strike.number }) _ refl
            (on_ok w.push.result ok w.push.ensures.permutation) (on_ok w.push.result ok w.push.ensures.heap_order i.queue.ordered) (on_ok w.push.result ok w.push.ensures.len) w.push.ensures.capacity;
      })
  | in_default-strike w ↦
      let i = c.loop-place.invariant in
      rw w.self-inside-is (record {
        limit = i.limit;
        count = i.count;
        next = i.next;
        waits = i.waits;
        struck = struck_more c.self.inside.waiters c.loop-place.self-inside.waiters c.strike.new.self c.deref-place-items.result.now c.loop-place.place-index c.loop-place-test.true i.struck
            c.strike.ensures.places c.strike.ensures.slots;
        queue = queue-same (ready_at c.loop-place.self-inside.waiters) (ready_at c.strike.new.self) c.self.inside.next _ _ _ i.queue w.in_default-strike.ensures.same;
      })
]

pub invariant_of-self-in-loop-place : goal.invariant_of-self-in-loop-place
invariant_of-self-in-loop-place g c =
    let i = c.loop-place.invariant in
    let struck = subst (λ ns. IsStruck c.self.inside.waiters c.loop-place.self-inside.waiters ns) (take_all c.loop-place.place-index _ c.loop-place-test.false) i.struck in
    rw (i.limit, i.count, i.next, i.waits)
    (kept_struck c.self.inside.waiters c.loop-place.self-inside.waiters (numbers_at c.self.inside.waits.entries) (numbers_at c.remove.new.self.entries) c.args.need.now _ struck
    (numbers_found c.self.inside.waits.entries c.key_of.result c.args.need.now (Some c.in-Some.places) c.key_of.ensures (sym c.in-Some.is ∙ c.remove.ensures.value) ∙ sym c.deref-place-items.ensures.value)
    (cleared_of c.self.inside.waits.entries c.remove.new.self.entries c.key_of.result c.args.need.now c.key_of.ensures (record { at = c.remove.ensures.updates.0 }))
    c.self.inside.limit c.self.inside.count c.self.inside.next (heap_items c.self.inside.ready) _ (heap_len c.self.inside.ready) (heap_capacity c.self.inside.ready) _ _ c.self.invariant i.queue)

pub returns : goal.returns
returns g c =
    let i = c.loop-place.invariant in
    let struck = subst (λ ns. IsStruck c.self.inside.waiters c.loop-place.self-inside.waiters ns) (take_all c.loop-place.place-index _ c.loop-place-test.false) i.struck in
    rw (← c.self.view_is, i.limit, i.next, i.waits)
    (ap (λ (ws : List (Waiting g.row.T.Denot)). record { limit = c.self.inside.limit; waiting = ws })
    (listed_struck c.self.inside.waiters c.loop-place.self-inside.waiters (numbers_at c.self.inside.waits.entries) (numbers_at c.remove.new.self.entries) c.args.need.now _ struck
    (numbers_found c.self.inside.waits.entries c.key_of.result c.args.need.now (Some c.in-Some.places) c.key_of.ensures (sym c.in-Some.is ∙ c.remove.ensures.value) ∙ sym c.deref-place-items.ensures.value)
    (cleared_of c.self.inside.waits.entries c.remove.new.self.entries c.key_of.result c.args.need.now c.key_of.ensures (record { at = c.remove.ensures.updates.0 }))
    c.self.inside.next))
