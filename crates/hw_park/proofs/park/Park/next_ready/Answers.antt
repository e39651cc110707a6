use Rattle.std.proofs.Common.{◌∙◌, sym, ap, rules, subst, Some, None, IsNone, Option, List, heap_items, heap_len}
use Rattle.std.specs.BinaryHeap.{heap_capacity}
use Rattle.hw_park.specs.Parked.{Waiting}
use Rattle.hw_park.specs.Numbers.{numbers_at}
use Rattle.hw_park.proofs.NextLaws.{nothing_ready, never_gone, handed_out, none_waits}
use Rattle.hw_park.proofs.park.Park.next_ready.Goals as goal

pub returns-in_err-number-clause-item : goal.returns-in_err-number-clause-item
returns-in_err-number-clause-item g c =
    let still = nothing_ready _ _ _ _ _ _ _ _ c.self.invariant c.in_err-number.ensures.none in
    rw (← c.self.view_is) (c.from_residual.ensures ∙ sym still.none)

pub returns-in_err-number-clause-others : goal.returns-in_err-number-clause-others
returns-in_err-number-clause-others g c =
    let still = nothing_ready _ _ _ _ _ _ _ _ c.self.invariant c.in_err-number.ensures.none in
    rw (← c.self.view_is) (ap (λ (ws : List (Waiting g.row.T.Denot)). record { limit = c.self.inside.limit; waiting = ws }) (sym still.same))

pub returns-in_err-number-clause-none : goal.returns-in_err-number-clause-none
returns-in_err-number-clause-none g c =
    let still = nothing_ready _ _ _ _ _ _ _ _ c.self.invariant c.in_err-number.ensures.none in
    let none : IsNone {T = g.row.T.Denot} None = search rules in
    rw (← c.self.view_is) (λ e. still.needs, λ all. subst (λ (o : Option g.row.T.Denot). IsNone o) (sym c.from_residual.ensures) none)

pub invariant_of-self-in_err-waiter : goal.invariant_of-self-in_err-waiter
invariant_of-self-in_err-waiter g c =
    absurd
    (never_gone c.self.inside.waiters c.self.inside.next (heap_items c.self.inside.ready) (heap_items c.pop.new.self) (heap_len c.self.inside.ready) (heap_capacity c.self.inside.ready)
    c.in_ok-number.field-0 c.self.invariant.queue c.in_ok-number.ensures.permutation c.in_err-waiter.ensures.item)

pub returns-in_err-waiter : goal.returns-in_err-waiter
returns-in_err-waiter g c =
    absurd
    (never_gone c.self.inside.waiters c.self.inside.next (heap_items c.self.inside.ready) (heap_items c.pop.new.self) (heap_len c.self.inside.ready) (heap_capacity c.self.inside.ready)
    c.in_ok-number.field-0 c.self.invariant.queue c.in_ok-number.ensures.permutation c.in_err-waiter.ensures.item)

pub invariant_of-self-2 : goal.invariant_of-self-2
invariant_of-self-2 g c =
    let notes = numbers_at c.self.inside.waits.entries in
    rw c.pop.ensures.capacity
    (handed_out c.self.inside.limit c.self.inside.count c.self.inside.next c.self.inside.waiters c.remove.new.self notes
    (heap_items c.self.inside.ready) (heap_items c.pop.new.self) (heap_len c.self.inside.ready) (heap_len c.pop.new.self) _ c.in_ok-number.field-0 c.in_ok-waiter.waiter
    c.self.invariant c.in_ok-number.ensures.permutation (c.in_ok-number.ensures.below_top c.self.invariant.queue.ordered) (c.in_ok-number.ensures.heap_order c.self.invariant.queue.ordered).0
    c.in_ok-number.ensures.len (record {
      item = sym c.in_ok-waiter.ensures.item;
      ready = record { at = c.in_ok-waiter.ensures.ready };
      items = record { at = c.in_ok-waiter.ensures.held notes };
      slots = c.in_ok-waiter.ensures.slots;
    })).kept

pub overflow_sub-self : goal.overflow_sub-self
overflow_sub-self g c =
    let notes = numbers_at c.self.inside.waits.entries in
    let out = handed_out c.self.inside.limit c.self.inside.count c.self.inside.next c.self.inside.waiters c.remove.new.self notes
    (heap_items c.self.inside.ready) (heap_items c.pop.new.self) (heap_len c.self.inside.ready) (heap_len c.pop.new.self) (heap_capacity c.self.inside.ready) c.in_ok-number.field-0 c.in_ok-waiter.waiter
    c.self.invariant c.in_ok-number.ensures.permutation (c.in_ok-number.ensures.below_top c.self.invariant.queue.ordered) (c.in_ok-number.ensures.heap_order c.self.invariant.queue.ordered).0
    c.in_ok-number.ensures.len (record {
      item = sym c.in_ok-waiter.ensures.item;
      ready = record { at = c.in_ok-waiter.ensures.ready };
      items = record { at = c.in_ok-waiter.ensures.held notes };
      slots = c.in_ok-waiter.ensures.slots;
    }) in
    out.counted

pub returns : goal.returns
returns g c =
    let notes = numbers_at c.self.inside.waits.entries in
    let out = handed_out c.self.inside.limit c.self.inside.count c.self.inside.next c.self.inside.waiters c.remove.new.self notes
    (heap_items c.self.inside.ready) (heap_items c.pop.new.self) (heap_len c.self.inside.ready) (heap_len c.pop.new.self) (heap_capacity c.self.inside.ready) c.in_ok-number.field-0 c.in_ok-waiter.waiter
    c.self.invariant c.in_ok-number.ensures.permutation (c.in_ok-number.ensures.below_top c.self.invariant.queue.ordered) (c.in_ok-number.ensures.heap_order c.self.invariant.queue.ordered).0
    c.in_ok-number.ensures.len (record {
      item = sym c.in_ok-waiter.ensures.item;
      ready = record { at = c.in_ok-waiter.ensures.ready };
      items = record { at = c.in_ok-waiter.ensures.held notes };
      slots = c.in_ok-waiter.ensures.slots;
    }) in
    record {
      item = rw (← c.self.view_is) (ap Some c.into_item.ensures ∙ out.item_is);
      others = rw (← c.self.view_is) (ap (λ (ws : List (Waiting g.row.T.Denot)). record { limit = c.self.inside.limit; waiting = ws }) out.others);
      none = rw (← c.self.view_is) (λ e. absurd cc, λ all. absurd (none_waits _ all _ out.item_is));
      unchanged = tt;
    }
