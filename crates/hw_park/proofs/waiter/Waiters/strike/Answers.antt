use Rattle.std.proofs.Common.{rules, ◌≡◌, Some, Option, IsSome, sym, subst, refl}
use Rattle.slab.specs.Slab.{with_value}
use Rattle.slab.proofs.SlabLemmas.{Updates-with_value}
use Rattle.hw_park.specs.declared.waiter.Waiter.{Waiter}
use Rattle.hw_park.specs.Held.{Held, slot_at, IsSlotSet}
use Rattle.hw_park.proofs.HeldLaws.{placed_struck, slots_struck, struck_last, struck_same}
use Rattle.hw_park.proofs.waiter.Waiters.strike.Goals as goal

pub invariant_of-self-2 : goal.invariant_of-self-2
invariant_of-self-2 g c =
    let W : Type 0 = Waiter g.row.T.Denot in
    let old : Held g.row.T.Denot = record { places = c.self.inside.places.entries; slots = c.self.inside.items.slots } in
    let before : W = c.in-Some.waiter.now in
    let after : W = c.count_down.new.waiter in
    let new : Held g.row.T.Denot = record { places = old.places; slots = (with_value c.self.inside.items c.args.place after).slots } in
    let was : slot_at old.slots c.args.place ≡ Some before = sym c.in-Some.ensures.value in
    let some : IsSome (Some before) = search rules in
    let updates = Updates-with_value c.self.inside.items c.args.place after (subst (λ (o : Option W). IsSome o) (sym was) some) in
    let set : IsSlotSet old.slots new.slots c.args.place (Some after) = record { here = updates.changed; others = updates.others } in
    placed_struck old new c.args.place before after c.self.invariant refl was set c.count_down.ensures.less

pub returns-clause-slots : goal.returns-clause-slots
returns-clause-slots g c =
    let W : Type 0 = Waiter g.row.T.Denot in
    let old : Held g.row.T.Denot = record { places = c.self.inside.places.entries; slots = c.self.inside.items.slots } in
    let before : W = c.in-Some.waiter.now in
    let after : W = c.count_down.new.waiter in
    let new : Held g.row.T.Denot = record { places = old.places; slots = (with_value c.self.inside.items c.args.place after).slots } in
    let was : slot_at old.slots c.args.place ≡ Some before = sym c.in-Some.ensures.value in
    let some : IsSome (Some before) = search rules in
    let updates = Updates-with_value c.self.inside.items c.args.place after (subst (λ (o : Option W). IsSome o) (sym was) some) in
    let set : IsSlotSet old.slots new.slots c.args.place (Some after) = record { here = updates.changed; others = updates.others } in
    rw (← c.self.view_is) (slots_struck old.slots new.slots c.args.place before after was set c.count_down.ensures.less)

pub returns-clause-same : goal.returns-clause-same
returns-clause-same g c =
    let W : Type 0 = Waiter g.row.T.Denot in
    let old : Held g.row.T.Denot = record { places = c.self.inside.places.entries; slots = c.self.inside.items.slots } in
    let before : W = c.in-Some.waiter.now in
    let after : W = c.count_down.new.waiter in
    let new : Held g.row.T.Denot = record { places = old.places; slots = (with_value c.self.inside.items c.args.place after).slots } in
    let was : slot_at old.slots c.args.place ≡ Some before = sym c.in-Some.ensures.value in
    let some : IsSome (Some before) = search rules in
    let updates = Updates-with_value c.self.inside.items c.args.place after (subst (λ (o : Option W). IsSome o) (sym was) some) in
    let set : IsSlotSet old.slots new.slots c.args.place (Some after) = record { here = updates.changed; others = updates.others } in
    rw (← c.self.view_is) (struck_same old new c.args.place before after c.self.invariant refl was set c.count_down.ensures.less c.count_down.result c.count_down.ensures.last)

pub returns-clause-last : goal.returns-clause-last
returns-clause-last g c =
    let W : Type 0 = Waiter g.row.T.Denot in
    let old : Held g.row.T.Denot = record { places = c.self.inside.places.entries; slots = c.self.inside.items.slots } in
    let before : W = c.in-Some.waiter.now in
    let after : W = c.count_down.new.waiter in
    let new : Held g.row.T.Denot = record { places = old.places; slots = (with_value c.self.inside.items c.args.place after).slots } in
    let was : slot_at old.slots c.args.place ≡ Some before = sym c.in-Some.ensures.value in
    let some : IsSome (Some before) = search rules in
    let updates = Updates-with_value c.self.inside.items c.args.place after (subst (λ (o : Option W). IsSome o) (sym was) some) in
    let set : IsSlotSet old.slots new.slots c.args.place (Some after) = record { here = updates.changed; others = updates.others } in
    rw (← c.self.view_is) (struck_last old new c.args.place before after c.self.invariant refl was set c.count_down.ensures.less c.count_down.result c.count_down.ensures.last)
