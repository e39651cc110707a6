use Rattle.std.proofs.Common.{◌≡◌, ◌∙◌, ap, sym, ℕ, ◌+◌, ◌++◌, ◌∷◌, [], List, length, heap_items, heap_len, refl, arith}
use Rattle.std.specs.BinaryHeap.{heap_capacity}
use Rattle.hw_types.specs.declared.unit.Need.{Need}
use Rattle.hw_park.specs.Parked.{Waiting}
use Rattle.hw_park.specs.Numbers.{numbers_at}
use Rattle.hw_park.specs.Held.{held, ready_at}
use Rattle.hw_park.specs.Kept.{listed, itself}
use Rattle.hw_park.proofs.StruckLaws.{as_many}
use Rattle.std.proofs.lemmas.List.Sums.{count_by-le-length}
use Rattle.hw_park.proofs.ParkLaws.{kept_parked, kept_again, listed_parked, notes_same}
use Rattle.hw_park.proofs.park.Park.park.Goals as goal

pub prepare-requires : goal.prepare-requires
prepare-requires g c =
    let k = c.self.invariant in
    let notes = numbers_at c.self.inside.waits.entries in
    let ready = listed (ready_at c.self.inside.waiters) c.self.inside.next in
    let long = as_many c.self.inside.waiters notes k.noted c.self.inside.next in
    omega (arith, k.queue.many, k.counted, long, count_by-le-length itself ready)

pub insert-requires : goal.insert-requires
insert-requires g c = c.self.invariant.queue.below c.self.inside.next (omega arith)

pub invariant_of-self-in-Ok-insert : goal.invariant_of-self-in-Ok-insert
invariant_of-self-in-Ok-insert g c =
    let next : c.in-Some.next ≡ c.self.inside.next + 1 = c.in-Some.ensures.1 in
    let copied : c.in-Ok.own.items ≡ c.args.needs.now = c.in-Ok.ensures.copied in
    let long = ap length copied in
    rw next (kept_parked c.self.inside.waiters c.insert.new.self (numbers_at c.self.inside.waits.entries) (numbers_at c.insert.new.waits.entries)
    (record { number = c.self.inside.next; needs = c.in-Ok.own; left = length c.args.needs.now; item = c.args.item }) c.in-Ok-insert.ensures.put c.self.inside.limit c.self.inside.count c.self.inside.next
    (heap_items c.self.inside.ready) (heap_items c.prepare.new.ready) (heap_len c.self.inside.ready) (heap_len c.prepare.new.ready)
    (heap_capacity c.self.inside.ready) (heap_capacity c.prepare.new.ready) c.self.invariant refl (sym long) (omega (arith, long, c.requires))
    c.prepare.ensures.items c.prepare.ensures.len c.in-Ok.ensures.room c.if-self.false)

pub returns-in-Ok-insert-clause-parked : goal.returns-in-Ok-insert-clause-parked
returns-in-Ok-insert-clause-parked g c =
    let next : c.in-Some.next ≡ c.self.inside.next + 1 = c.in-Some.ensures.1 in
    let copied : c.in-Ok.own.items ≡ c.args.needs.now = c.in-Ok.ensures.copied in
    rw (← c.self.view_is, next)
    (ap (λ (ws : List (Waiting g.row.T.Denot)). record { limit = c.self.inside.limit; waiting = ws })
    (listed_parked c.self.inside.waiters c.insert.new.self (numbers_at c.self.inside.waits.entries) (numbers_at c.insert.new.waits.entries)
    (record { number = c.self.inside.next; needs = c.in-Ok.own; left = length c.args.needs.now; item = c.args.item }) c.in-Ok-insert.ensures.put c.self.inside.next refl
    ∙ ap (λ (ns : List Need). listed (held c.self.inside.waiters (numbers_at c.self.inside.waits.entries)) c.self.inside.next ++ record { needs = ns; item = c.args.item } ∷ []) copied))

pub invariant_of-self-in-Err : goal.invariant_of-self-in-Err
invariant_of-self-in-Err g c =
    rw c.in-Err.ensures.unchanged
    (kept_again c.self.inside.limit c.self.inside.count c.self.inside.next c.self.inside.waiters c.self.inside.waits.entries c.insert.new.waits.entries
    (heap_items c.self.inside.ready) (heap_items c.prepare.new.ready) (heap_len c.self.inside.ready) (heap_len c.prepare.new.ready) (heap_capacity c.self.inside.ready) (heap_capacity c.prepare.new.ready)
    c.self.invariant c.in-Err.ensures.unnoted c.prepare.ensures.items c.prepare.ensures.len c.prepare.ensures.capacity)

pub returns-in-Err-clause-unchanged : goal.returns-in-Err-clause-unchanged
returns-in-Err-clause-unchanged g c =
    rw (← c.self.view_is, c.in-Err.ensures.unchanged)
    (ap (λ (notes : Need → List ℕ). record { limit = c.self.inside.limit; waiting = listed (held c.self.inside.waiters notes) c.self.inside.next })
    (notes_same c.self.inside.waits.entries c.insert.new.waits.entries c.in-Err.ensures.unnoted))
