use Rattle.std.proofs.Common.{◌≡◌, ◌++◌, ℕ, List, [], Option, length, take, refl, sym, subst, ap, ◌∙◌, arith}
use Rattle.std.specs.List.{flat_map}
use Rattle.std.specs.Option.{option_map_or}
use Rattle.std.proofs.lemmas.List.{length-take-le}
use Rattle.hw_types.specs.declared.unit.Need.{Need}
use Rattle.hw_park.specs.declared.waiter.Waiter.{Waiter}
use Rattle.hw_park.specs.Held.{Held, left_of, held, ready_at}
use Rattle.hw_park.specs.Numbers.{numbers_at}
use Rattle.hw_park.specs.Kept.{listed}
use Rattle.hw_park.specs.First.{with_firsts, needs_of_places}
use Rattle.hw_park.specs.Parked.{Waiting, awaited}
use Rattle.hw_park.proofs.FirstLaws.{firsts-append, firsts_of}
use Rattle.hw_park.proofs.PlacedLaws.{places_listed}
use Rattle.hw_park.proofs.FoundLaws.{AreFound, found_none, left_found, places_there}
use Rattle.hw_park.proofs.waiter.Waiters.first_needs.Goals as goal

pub loop-place-init : goal.loop-place-init
loop-place-init g c = record {
  within = omega arith;
  long = refl;
  put = refl;
  found = found_none c.args.waits.now.entries;
}

pub loop-place-preserved-in-Some-get : goal.loop-place-preserved-in-Some-get
loop-place-preserved-in-Some-get g c =
    let W : Type 0 = Waiter g.row.T.Denot in
    let most = length c.args.list.now in
    let h : Held g.row.T.Denot = record { places = c.self.inside.places.entries; slots = c.self.inside.items.slots } in
    let place = c.in-Some.place.now in
    let now = c.in-Some-get.waiter.now in
    let e = c.put_left-filled.ensures in
    let k = c.loop-place.invariant in
    let was = take c.loop-place.filled c.loop-place.list in
    let notes = numbers_at c.args.waits.now.entries in
    let later = needs_of_places h notes c.next.new.self in
    record {
      within = let a = e.within in let b = e.long in omega arith;
      long = e.long ∙ k.long;
      put = ap (λ (ns : List Need). with_firsts most ns later) (e.put ∙ ap (λ (ns : List Need). with_firsts (length c.loop-place.list) was (left_of notes place ns)) c.as_slice.ensures.value ∙ ap (λ (m : ℕ). with_firsts m was (left_of notes place now.needs.items)) k.long)
          ∙ sym (firsts-append most was (left_of notes place now.needs.items) later)
          ∙ ap (λ (o : Option W). with_firsts most was (option_map_or (λ (w : W). left_of notes place w.needs.items) o [] ++ later)) c.in-Some-get.ensures
          ∙ ap (λ (ps : List ℕ). with_firsts most was (needs_of_places h notes ps)) (sym c.in-Some.ensures.steps)
          ∙ k.put;
      found = subst (λ (ns : List Need). AreFound c.args.waits.now.entries ns) (sym e.put) (left_found c.args.waits.now.entries (length c.loop-place.list) place was c.as_slice.result.now k.found);
    }

pub loop-place-preserved : goal.loop-place-preserved
loop-place-preserved g c =
    let W : Type 0 = Waiter g.row.T.Denot in
    let most = length c.args.list.now in
    let h : Held g.row.T.Denot = record { places = c.self.inside.places.entries; slots = c.self.inside.items.slots } in
    let place = c.in-Some.place.now in
    let k = c.loop-place.invariant in
    let was = take c.loop-place.filled c.loop-place.list in
    let notes = numbers_at c.args.waits.now.entries in
    let later = needs_of_places h notes c.next.new.self in
    record {
      within = k.within;
      long = k.long;
      put = ap (λ (o : Option W). with_firsts most was (option_map_or (λ (w : W). left_of notes place w.needs.items) o [] ++ later)) c.in_default.ensures
          ∙ ap (λ (ps : List ℕ). with_firsts most was (needs_of_places h notes ps)) (sym c.in-Some.ensures.steps)
          ∙ k.put;
      found = k.found;
    }

pub returns-clause-within : goal.returns-clause-within
returns-clause-within g c = let k = c.loop-place.invariant.within in let l = c.loop-place.invariant.long in omega arith

pub returns-clause-put : goal.returns-clause-put
returns-clause-put g c n beyond =
    let most = length c.args.list.now in
    let h : Held g.row.T.Denot = record { places = c.self.inside.places.entries; slots = c.self.inside.items.slots } in
    let k = c.loop-place.invariant in
    let was = take c.loop-place.filled c.loop-place.list in
    let notes = numbers_at c.args.waits.now.entries in
    ap (λ (ps : List ℕ). with_firsts most was (needs_of_places h notes ps)) (sym c.in-None.ensures.steps.0)
    ∙ k.put
    ∙ ap (λ (ps : List ℕ). with_firsts most [] (needs_of_places h notes ps)) (c.into_iter-place-iterator.ensures.into_iter_gives ∙ c.values-place-items.ensures.rest)
    ∙ ap (λ (ns : List Need). with_firsts most [] ns) (places_listed h notes c.self.invariant n (λ j le. ap (λ (x : Held g.row.T.Denot). ready_at x j) c.self.view_is ∙ beyond j le) c.values-place-items.ensures.ordered)
    ∙ firsts_of most (flat_map (λ (w : Waiting g.row.T.Denot). w.needs) (listed (held h notes) n))
    ∙ ap (λ (x : Held g.row.T.Denot). take most (awaited (listed (held x notes) n))) c.self.view_is

-- Once each need of the table is in the list, none follows.
pub returns-then-filled-len-clause-put : goal.returns-then-filled-len-clause-put
returns-then-filled-len-clause-put g c n beyond =
    let most = length c.args.list.now in
    let h : Held g.row.T.Denot = record { places = c.self.inside.places.entries; slots = c.self.inside.items.slots } in
    let k = c.loop-place.invariant in
    let was = take c.loop-place.filled c.loop-place.list in
    let notes = numbers_at c.args.waits.now.entries in
    let many : length was ≡ length c.args.waits.now.entries = (let full = c.if-filled-len.true in let all = c.len.ensures.len in let within = k.within in let long = length-take-le c.loop-place.filled c.loop-place.list k.within in omega arith) in
    sym (places_there c.args.waits.now.entries most was k.found many h c.loop-place.place-iterator)
    ∙ k.put
    ∙ ap (λ (ps : List ℕ). with_firsts most [] (needs_of_places h notes ps)) (c.into_iter-place-iterator.ensures.into_iter_gives ∙ c.values-place-items.ensures.rest)
    ∙ ap (λ (ns : List Need). with_firsts most [] ns) (places_listed h notes c.self.invariant n (λ j le. ap (λ (x : Held g.row.T.Denot). ready_at x j) c.self.view_is ∙ beyond j le) c.values-place-items.ensures.ordered)
    ∙ firsts_of most (flat_map (λ (w : Waiting g.row.T.Denot). w.needs) (listed (held h notes) n))
    ∙ ap (λ (x : Held g.row.T.Denot). take most (awaited (listed (held x notes) n))) c.self.view_is
