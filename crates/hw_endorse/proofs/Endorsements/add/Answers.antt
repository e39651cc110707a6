use Rattle.std.proofs.Common.{ℕ, ◌+◌, ◌^◌, ◌<◌, Bool, not, List, length, slice_index, sym, ap, ◌∙◌, subst, arith, if◌then◌else◌}
use Rattle.hw_endorse.specs.declared.Added.TheVariants.{New, Repeat}
use Rattle.hw_endorse.specs.Told.{Told, added_of, with_pair}
use Rattle.hw_endorse.specs.Kept.{pairs_in, weight_in}
use Rattle.hw_endorse.proofs.PairLaws.{told_in_order}
use Rattle.hw_endorse.proofs.TallyLaws.{told_at, pairs_more, pairs_same}
use Rattle.hw_endorse.proofs.KeptLaws.{Weighs, err_is, turned_false, turned_true, kept_put, kept_same, added_fits, told_one_more, told_same, told_repeat}
use Rattle.hw_endorse.proofs.Endorsements.add.Goals as goal

pub put-requires-clause-fits : goal.put-requires-clause-fits
put-requires-clause-fits c =
    let within : c.args.endorser < length c.self.inside.weights = omega (arith, c.requires, ap (λ (t : Told). length t.weights) c.self.view_is) in
    let fits = added_fits c.self.inside.weights c.self.inside.total (pairs_in c.self.inside.tallies.entries) c.self.inside.tallies.entries c.self.inside.endorsed.keys c.args.unit.now c.args.endorser c.self.invariant within in
    let P : List ℕ → Type 0 = λ weights. weight_in c.self.inside.tallies.entries c.args.unit.now + slice_index weights c.args.endorser < 2 ^ 63 in
    subst P (sym c.as_slice.ensures) fits

pub invariant_of-self : goal.invariant_of-self
invariant_of-self c =
    kept_same c.self.inside.weights c.self.inside.total (pairs_in c.self.inside.tallies.entries) (pairs_in c.put.new.tallies.entries) c.self.inside.tallies.entries c.put.new.tallies.entries
    c.self.inside.endorsed.keys c.put.new.endorsed.keys c.self.invariant (pairs_same c.self.inside.tallies.entries c.put.new.tallies.entries c.in_err-new.ensures.untold) c.in_err-new.ensures.unweighed c.in_err-new.ensures.listed

pub returns-in_err-new-clause-err : goal.returns-in_err-new-clause-err
returns-in_err-new-clause-err c =
    err_is c.from_residual.result
    (told_same c.self.inside.weights (pairs_in c.self.inside.tallies.entries) (pairs_in c.put.new.tallies.entries) (pairs_same c.self.inside.tallies.entries c.put.new.tallies.entries c.in_err-new.ensures.untold) ∙ c.self.view_is)

pub invariant_of-self-then-not-new : goal.invariant_of-self-then-not-new
invariant_of-self-then-not-new c =
    let within : c.args.endorser < length c.self.inside.weights = omega (arith, c.requires, ap (λ (t : Told). length t.weights) c.self.view_is) in
    let P : List ℕ → Type 0 = λ weights. Weighs c.self.inside.tallies.entries c.put.new.tallies.entries c.args.unit.now (if c.in_ok-new.new then slice_index weights c.args.endorser else 0) in
    kept_put c.self.inside.weights c.self.inside.total (pairs_in c.self.inside.tallies.entries) (pairs_in c.put.new.tallies.entries) c.self.inside.tallies.entries c.put.new.tallies.entries
    c.self.inside.endorsed.keys c.put.new.endorsed.keys c.args.unit.now c.args.endorser c.in_ok-new.new
    c.self.invariant within (c.in_ok-new.ensures.new ∙ ap (λ (b : Bool). not b) (sym (told_at c.self.inside.tallies.entries c.args.unit.now c.args.endorser))) (pairs_more c.self.inside.tallies.entries c.put.new.tallies.entries c.args.unit.now c.args.endorser c.in_ok-new.ensures.told) (subst P c.as_slice.ensures c.in_ok-new.ensures.weighed) c.in_ok-new.ensures.listed

pub returns-then-not-new-clause-added : goal.returns-then-not-new-clause-added
returns-then-not-new-clause-added c =
    let there = turned_false _ (sym c.in_ok-new.ensures.new ∙ c.if-not-new.true) in
    ap (λ (b : Bool). if b then Repeat else New) (sym (told_in_order (pairs_in c.self.inside.tallies.entries) c.args.unit.now c.args.endorser ∙ told_at c.self.inside.tallies.entries c.args.unit.now c.args.endorser ∙ there))
    ∙ ap (λ (t : Told). added_of t.pairs c.args.unit.now c.args.endorser) c.self.view_is

pub returns-then-not-new-clause-told : goal.returns-then-not-new-clause-told
returns-then-not-new-clause-told c =
    told_one_more c.self.inside.weights (pairs_in c.self.inside.tallies.entries) (pairs_in c.put.new.tallies.entries) c.args.unit.now c.args.endorser (pairs_more c.self.inside.tallies.entries c.put.new.tallies.entries c.args.unit.now c.args.endorser c.in_ok-new.ensures.told)
    ∙ ap (λ (t : Told). record t { pairs = with_pair t.pairs c.args.unit.now c.args.endorser }) c.self.view_is

pub returns-then-not-new-clause-repeat : goal.returns-then-not-new-clause-repeat
returns-then-not-new-clause-repeat c repeat =
    let there = turned_false _ (sym c.in_ok-new.ensures.new ∙ c.if-not-new.true) in
    told_one_more c.self.inside.weights (pairs_in c.self.inside.tallies.entries) (pairs_in c.put.new.tallies.entries) c.args.unit.now c.args.endorser (pairs_more c.self.inside.tallies.entries c.put.new.tallies.entries c.args.unit.now c.args.endorser c.in_ok-new.ensures.told)
    ∙ told_repeat c.self.inside.weights (pairs_in c.self.inside.tallies.entries) c.args.unit.now c.args.endorser (told_at c.self.inside.tallies.entries c.args.unit.now c.args.endorser ∙ there)
    ∙ c.self.view_is

pub invariant_of-self-2 : goal.invariant_of-self-2
invariant_of-self-2 c =
    let within : c.args.endorser < length c.self.inside.weights = omega (arith, c.requires, ap (λ (t : Told). length t.weights) c.self.view_is) in
    let P : List ℕ → Type 0 = λ weights. Weighs c.self.inside.tallies.entries c.put.new.tallies.entries c.args.unit.now (if c.in_ok-new.new then slice_index weights c.args.endorser else 0) in
    kept_put c.self.inside.weights c.self.inside.total (pairs_in c.self.inside.tallies.entries) (pairs_in c.put.new.tallies.entries) c.self.inside.tallies.entries c.put.new.tallies.entries
    c.self.inside.endorsed.keys c.put.new.endorsed.keys c.args.unit.now c.args.endorser c.in_ok-new.new
    c.self.invariant within (c.in_ok-new.ensures.new ∙ ap (λ (b : Bool). not b) (sym (told_at c.self.inside.tallies.entries c.args.unit.now c.args.endorser))) (pairs_more c.self.inside.tallies.entries c.put.new.tallies.entries c.args.unit.now c.args.endorser c.in_ok-new.ensures.told) (subst P c.as_slice.ensures c.in_ok-new.ensures.weighed) c.in_ok-new.ensures.listed

pub returns-clause-added : goal.returns-clause-added
returns-clause-added c =
    let fresh = turned_true _ (sym c.in_ok-new.ensures.new ∙ c.if-not-new.false) in
    ap (λ (b : Bool). if b then Repeat else New) (sym (told_in_order (pairs_in c.self.inside.tallies.entries) c.args.unit.now c.args.endorser ∙ told_at c.self.inside.tallies.entries c.args.unit.now c.args.endorser ∙ fresh))
    ∙ ap (λ (t : Told). added_of t.pairs c.args.unit.now c.args.endorser) c.self.view_is

pub returns-clause-told : goal.returns-clause-told
returns-clause-told c =
    told_one_more c.self.inside.weights (pairs_in c.self.inside.tallies.entries) (pairs_in c.put.new.tallies.entries) c.args.unit.now c.args.endorser (pairs_more c.self.inside.tallies.entries c.put.new.tallies.entries c.args.unit.now c.args.endorser c.in_ok-new.ensures.told)
    ∙ ap (λ (t : Told). record t { pairs = with_pair t.pairs c.args.unit.now c.args.endorser }) c.self.view_is
