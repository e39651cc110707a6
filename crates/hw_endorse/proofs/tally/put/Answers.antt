use Rattle.std.proofs.Common.{rules, refl, ◌≡◌, ℕ, ◌*◌, nat_lt, Option, sym, ap, ◌∙◌, arith}
use Rattle.std.specs.Option.{unwrap_or}
use Rattle.hw_endorse.specs.declared.tally.Endorsers.{Endorsers}
use Rattle.hw_endorse.specs.Kept.{weight_in}
use Rattle.hw_endorse.proofs.TallyLaws.{was_weight, was_who, put_new, put_told, put_weighed, put_untold, put_unweighed, lists_all}
use Rattle.hw_endorse.proofs.tally.put.Goals as goal

pub put_last-requires-clause-fits : goal.put_last-requires-clause-fits
put_last-requires-clause-fits c =
    let none : Endorsers = record { who = c.new.result; weight = 0 } in
    let was : c.or_insert-endorsers.result.now.weight ≡ weight_in c.args.tallies.now.entries c.args.unit.now =
    was_weight c.args.tallies.now.entries c.args.unit.now c.or_insert-endorsers.result.now none
    (c.or_insert-endorsers.ensures.value ∙ ap (λ (o : Option Endorsers). unwrap_or o none) c.in_ok-tallies.ensures.value) refl in
    omega (arith, was, c.requires.fits)

pub put_last-requires-clause-listed : goal.put_last-requires-clause-listed
put_last-requires-clause-listed c =
    let none : Endorsers = record { who = c.new.result; weight = 0 } in
    let was : c.or_insert-endorsers.result.now.weight ≡ weight_in c.args.tallies.now.entries c.args.unit.now =
    was_weight c.args.tallies.now.entries c.args.unit.now c.or_insert-endorsers.result.now none
    (c.or_insert-endorsers.ensures.value ∙ ap (λ (o : Option Endorsers). unwrap_or o none) c.in_ok-tallies.ensures.value) refl in
    c.requires.listed c.args.unit.now ∙ ap (λ (n : ℕ). nat_lt c.args.total (2 * n)) (sym was)

pub returns-clause-new : goal.returns-clause-new
returns-clause-new c =
    let none : Endorsers = record { who = c.new.result; weight = 0 } in
    put_new c.put_last.result c.args.tallies.now.entries c.args.unit.now c.args.endorser c.or_insert-endorsers.result.now
    (was_who c.args.tallies.now.entries c.args.unit.now c.or_insert-endorsers.result.now none
    (c.or_insert-endorsers.ensures.value ∙ ap (λ (o : Option Endorsers). unwrap_or o none) c.in_ok-tallies.ensures.value) c.new.ensures.items) c.put_last.ensures.new

pub returns-clause-told : goal.returns-clause-told
returns-clause-told c =
    let none : Endorsers = record { who = c.new.result; weight = 0 } in
    put_told c.args.tallies.now.entries _ c.args.unit.now c.put_last.new.endorsers
    (λ d. let here = (c.in_ok-tallies.ensures.update.0 c.put_last.new.endorsers).0 d in search rules) c.or_insert-endorsers.result.now c.put_last.result c.args.endorser
    (was_who c.args.tallies.now.entries c.args.unit.now c.or_insert-endorsers.result.now none
    (c.or_insert-endorsers.ensures.value ∙ ap (λ (o : Option Endorsers). unwrap_or o none) c.in_ok-tallies.ensures.value) c.new.ensures.items) c.put_last.ensures.told

pub returns-clause-weighed : goal.returns-clause-weighed
returns-clause-weighed c =
    let none : Endorsers = record { who = c.new.result; weight = 0 } in
    put_weighed c.args.tallies.now.entries _ c.args.unit.now c.put_last.new.endorsers
    (λ d. let here = (c.in_ok-tallies.ensures.update.0 c.put_last.new.endorsers).0 d in search rules) c.or_insert-endorsers.result.now c.put_last.result c.args.weight
    (was_weight c.args.tallies.now.entries c.args.unit.now c.or_insert-endorsers.result.now none
    (c.or_insert-endorsers.ensures.value ∙ ap (λ (o : Option Endorsers). unwrap_or o none) c.in_ok-tallies.ensures.value) refl) c.put_last.ensures.weighed

pub returns-clause-listed : goal.returns-clause-listed
returns-clause-listed c =
    lists_all c.args.tallies.now.entries _ c.args.unit.now c.put_last.new.endorsers
    (λ d. let here = (c.in_ok-tallies.ensures.update.0 c.put_last.new.endorsers).0 d in search rules) c.args.total c.args.endorsed.now.keys c.put_last.new.endorsed.keys
    c.requires.listed c.put_last.ensures.listed c.put_last.ensures.others

pub returns-clause-untold : goal.returns-clause-untold
returns-clause-untold c =
    let none : Endorsers = record { who = c.new.result; weight = 0 } in
    put_untold c.args.tallies.now.entries _ c.args.unit.now c.put_last.new.endorsers
    (λ d. let here = (c.in_ok-tallies.ensures.update.0 c.put_last.new.endorsers).0 d in search rules) c.or_insert-endorsers.result.now c.put_last.result
    (was_who c.args.tallies.now.entries c.args.unit.now c.or_insert-endorsers.result.now none
    (c.or_insert-endorsers.ensures.value ∙ ap (λ (o : Option Endorsers). unwrap_or o none) c.in_ok-tallies.ensures.value) c.new.ensures.items) c.put_last.ensures.err

pub returns-clause-unweighed : goal.returns-clause-unweighed
returns-clause-unweighed c =
    let none : Endorsers = record { who = c.new.result; weight = 0 } in
    put_unweighed c.args.tallies.now.entries _ c.args.unit.now c.put_last.new.endorsers
    (λ d. let here = (c.in_ok-tallies.ensures.update.0 c.put_last.new.endorsers).0 d in search rules) c.or_insert-endorsers.result.now c.put_last.result
    (was_weight c.args.tallies.now.entries c.args.unit.now c.or_insert-endorsers.result.now none
    (c.or_insert-endorsers.ensures.value ∙ ap (λ (o : Option Endorsers). unwrap_or o none) c.in_ok-tallies.ensures.value) refl) c.put_last.ensures.err
