use Rattle.std.proofs.Common.{rules, ℕ, ◌-◌, Some, Option, IsSome, take, ap, ◌∙◌, subst}
use Rattle.std.specs.declared.vec.Vec.{Vec}
use Rattle.std.specs.declared.alloc.Global.{Global}
use Rattle.hw_park.proofs.NumberLaws.{last-taken, last-others, none-last}
use Rattle.hw_park.proofs.waits.take_last.Goals as goal

pub returns-in-Some-clause-last : goal.returns-in-Some-clause-last
returns-in-Some-clause-last c =
    let some : IsSome (Some c.in-Some.places.now) = search rules in
    let written = c.get_mut.follows.holds c.pop.new.self in
    let updates = written.3 (subst (λ (o : Option (Vec ℕ Global)). IsSome o) c.in-Some.ensures.value some) in
    last-taken c.args.waits.now.entries (c.get_mut.follows.lender c.pop.new.self).entries c.key_of.result c.args.need.now c.in-Some.places.now c.pop.new.self c.key_of.ensures c.in-Some.ensures.value
    (record { at = updates.0 }) (c.pop.ensures.rest ∙ ap (λ (len : ℕ). take (len - 1) c.in-Some.places.now.items) c.in-Some.places.now.ok.0)

pub returns-in-Some-clause-others : goal.returns-in-Some-clause-others
returns-in-Some-clause-others c =
    let some : IsSome (Some c.in-Some.places.now) = search rules in
    let written = c.get_mut.follows.holds c.pop.new.self in
    let updates = written.3 (subst (λ (o : Option (Vec ℕ Global)). IsSome o) c.in-Some.ensures.value some) in
    last-others c.args.waits.now.entries (c.get_mut.follows.lender c.pop.new.self).entries c.key_of.result c.args.need.now (Some c.pop.new.self) c.key_of.ensures (record { at = updates.0 })

pub returns-in_default-clause-last : goal.returns-in_default-clause-last
returns-in_default-clause-last c = λ n rest place same whole.
    absurd (none-last c.args.waits.now.entries c.key_of.result c.args.need.now n rest place c.key_of.ensures c.in_default.ensures.value same whole)
