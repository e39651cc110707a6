use Rattle.std.proofs.Common.{◌≡◌, ℕ, List, Some, ap, sym, refl, subst, ◌∙◌}
use Rattle.hw_types.specs.declared.unit.Need.{Need}
use Rattle.hw_park.specs.Numbers.{HasRegistered}
use Rattle.slab.specs.Slab.{Slab}
use Rattle.hw_park.specs.declared.waiter.Waiter.{Waiter}
use Rattle.hw_park.specs.Held.{Held, seen, is_over, slot_at, ready_at, IsSlotSet}
use Rattle.hw_park.proofs.HeldLaws.{moved, number_put, placed_put, no_place}
use Rattle.hw_park.proofs.ParkLaws.{not_err}
use Rattle.hw_park.proofs.waiter.Waiters.insert.Goals as goal

pub returns-then-is_err-3-clause-unnoted : goal.returns-then-is_err-3-clause-unnoted
returns-then-is_err-3-clause-unnoted g c =
    let noted = not_err c.register.result (sym c.is_err-2.ensures.value ∙ c.if-is_err-2.false) c.register.ensures.noted in
    c.withdraw.ensures c.args.waits.now.entries c.vacant_key-place.result
    (subst (λ (needs : List Need). HasRegistered c.args.waits.now.entries c.register.new.waits.entries needs c.vacant_key-place.result) (c.as_slice.ensures.value ∙ sym c.as_slice-then-is_err-3.ensures.value) noted)

pub invariant_of-self-2 : goal.invariant_of-self-2
invariant_of-self-2 g c =
    let W : Type 0 = Waiter g.row.T.Denot in
    let place = c.vacant_key-place.result in
    let old : Held g.row.T.Denot = record { places = c.self.inside.places.entries; slots = c.self.inside.items.slots } in
    let new : Held g.row.T.Denot = record { places = c.insert.new.self.entries; slots = c.insert_reserved.new.self.slots } in
    let kept : (q : ℕ) → slot_at c.reserve.new.self.slots q ≡ slot_at old.slots q = λ q. ap (λ (s : Slab W). slot_at s.slots q) c.reserve.ensures.rest_kept in
    let at : place ≡ c.insert_reserved.result = c.vacant_key-place.ensures.value ∙ sym c.insert_reserved.ensures.key in
    let set : IsSlotSet old.slots new.slots place (Some c.args.waiter) = record {
      here = ap (slot_at new.slots) at ∙ c.insert_reserved.ensures.updates.changed;
      others = λ q apart. c.insert_reserved.ensures.updates.others q (λ e. apart (e ∙ sym at)) ∙ kept q;
    } in
    let updates = not_err c.insert.result (sym c.is_err-3.ensures.value ∙ c.if-is_err-3.false) c.insert.ensures.updates in
    let fresh = no_place old c.args.waiter.number c.self.invariant (ap (λ (h : Held g.row.T.Denot). ready_at h c.args.waiter.number) c.self.view_is ∙ c.requires) in
    placed_put old new c.args.waiter.number place c.args.waiter c.self.invariant (sym (kept place) ∙ c.vacant_key-place.ensures.vacant) fresh refl
    (moved old.places new.places c.args.waiter.number (Some place) updates.0) set

pub returns-clause-put : goal.returns-clause-put
returns-clause-put g c =
    let W : Type 0 = Waiter g.row.T.Denot in
    let place = c.vacant_key-place.result in
    let old : Held g.row.T.Denot = record { places = c.self.inside.places.entries; slots = c.self.inside.items.slots } in
    let new : Held g.row.T.Denot = record { places = c.insert.new.self.entries; slots = c.insert_reserved.new.self.slots } in
    let kept : (q : ℕ) → slot_at c.reserve.new.self.slots q ≡ slot_at old.slots q = λ q. ap (λ (s : Slab W). slot_at s.slots q) c.reserve.ensures.rest_kept in
    let at : place ≡ c.insert_reserved.result = c.vacant_key-place.ensures.value ∙ sym c.insert_reserved.ensures.key in
    let set : IsSlotSet old.slots new.slots place (Some c.args.waiter) = record {
      here = ap (slot_at new.slots) at ∙ c.insert_reserved.ensures.updates.changed;
      others = λ q apart. c.insert_reserved.ensures.updates.others q (λ e. apart (e ∙ sym at)) ∙ kept q;
    } in
    let free = sym (kept place) ∙ c.vacant_key-place.ensures.vacant in
    let updates = not_err c.insert.result (sym c.is_err-3.ensures.value ∙ c.if-is_err-3.false) c.insert.ensures.updates in
    let move = moved old.places new.places c.args.waiter.number (Some place) updates.0 in
    rw (← c.self.view_is) (record {
      place = place;
      free = free;
      slots = set;
      ready = number_put (λ _ w. is_over w) old new c.args.waiter.number place c.args.waiter c.self.invariant free move set;
      items = λ notes. number_put (seen notes) old new c.args.waiter.number place c.args.waiter c.self.invariant free move set;
      noted = subst (λ (needs : List Need). HasRegistered c.args.waits.now.entries c.register.new.waits.entries needs place) c.as_slice.ensures.value
          (not_err c.register.result (sym c.is_err-2.ensures.value ∙ c.if-is_err-2.false) c.register.ensures.noted);
    })
