use Rattle.std.proofs.Common.{◌≡◌, Some, None, nat_eq, sym, ◌∙◌}
use Rattle.std.specs.Map.{lookup}
use Rattle.hw_park.specs.Held.{Held, seen, is_over, IsSlotSet}
use Rattle.hw_park.proofs.HeldLaws.{moved, place_of, number_taken, placed_taken, slots_taken}
use Rattle.hw_park.proofs.waiter.Waiters.remove.Goals as goal

pub invariant_of-self-2 : goal.invariant_of-self-2
invariant_of-self-2 g c =
    let old : Held g.row.T.Denot = record { places = c.self.inside.places.entries; slots = c.self.inside.items.slots } in
    let new : Held g.row.T.Denot = record { places = c.remove.new.self.entries; slots = c.try_remove.new.self.slots } in
    let at : lookup (nat_eq c.args.number) old.places ≡ Some c.in_ok-place.place = sym (place_of old.places c.args.number) ∙ sym c.in_ok-place.ensures.value in
    let set : IsSlotSet old.slots new.slots c.in_ok-place.place None = record { here = c.try_remove.ensures.updates.changed; others = c.try_remove.ensures.updates.others } in
    placed_taken old new c.args.number c.in_ok-place.place c.self.invariant at (moved old.places new.places c.args.number None c.in_ok-place.ensures.updates.0) set

pub returns-clause-ready : goal.returns-clause-ready
returns-clause-ready g c =
    let old : Held g.row.T.Denot = record { places = c.self.inside.places.entries; slots = c.self.inside.items.slots } in
    let new : Held g.row.T.Denot = record { places = c.remove.new.self.entries; slots = c.try_remove.new.self.slots } in
    let at : lookup (nat_eq c.args.number) old.places ≡ Some c.in_ok-place.place = sym (place_of old.places c.args.number) ∙ sym c.in_ok-place.ensures.value in
    let set : IsSlotSet old.slots new.slots c.in_ok-place.place None = record { here = c.try_remove.ensures.updates.changed; others = c.try_remove.ensures.updates.others } in
    rw (← c.self.view_is) (number_taken (λ _ w. is_over w) old new c.args.number c.in_ok-place.place c.self.invariant at (moved old.places new.places c.args.number None c.in_ok-place.ensures.updates.0) set)

pub returns-clause-held : goal.returns-clause-held
returns-clause-held g c =
    let old : Held g.row.T.Denot = record { places = c.self.inside.places.entries; slots = c.self.inside.items.slots } in
    let new : Held g.row.T.Denot = record { places = c.remove.new.self.entries; slots = c.try_remove.new.self.slots } in
    let at : lookup (nat_eq c.args.number) old.places ≡ Some c.in_ok-place.place = sym (place_of old.places c.args.number) ∙ sym c.in_ok-place.ensures.value in
    let set : IsSlotSet old.slots new.slots c.in_ok-place.place None = record { here = c.try_remove.ensures.updates.changed; others = c.try_remove.ensures.updates.others } in
    rw (← c.self.view_is) (λ notes. number_taken (seen notes) old new c.args.number c.in_ok-place.place c.self.invariant at (moved old.places new.places c.args.number None c.in_ok-place.ensures.updates.0) set)

pub returns-clause-slots : goal.returns-clause-slots
returns-clause-slots g c =
    let old : Held g.row.T.Denot = record { places = c.self.inside.places.entries; slots = c.self.inside.items.slots } in
    let new : Held g.row.T.Denot = record { places = c.remove.new.self.entries; slots = c.try_remove.new.self.slots } in
    let set : IsSlotSet old.slots new.slots c.in_ok-place.place None = record { here = c.try_remove.ensures.updates.changed; others = c.try_remove.ensures.updates.others } in
    rw (← c.self.view_is) (slots_taken old.slots new.slots c.in_ok-place.place c.try_remove.result set (sym c.try_remove.ensures.value))
