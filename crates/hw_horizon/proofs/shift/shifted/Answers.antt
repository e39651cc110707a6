use Rattle.std.proofs.Common.{◌≡◌, ◌+◌, ◌≤◌, Bool, true, false, ℕ, List, get_or, refl, sym, ap, subst, ◌∙◌, arith}
use Rattle.std.proofs.Math.Bool.{beq}
use Rattle.hw_dag.specs.declared.numbers.View.{View}
use Rattle.hw_dag.specs.Dag.{SettledUnit, UnitGraph, unit_at, view_at}
use Rattle.hw_horizon.specs.Firsts.{is_after}
use Rattle.hw_horizon.proofs.ShiftLaws.{amid_later, amid_same, amid_less, amid_more, amid_most}
use Rattle.hw_horizon.proofs.shift.shifted.Goals as goal

-- the test is that of the validator
test_is : (dag : UnitGraph) (firsts : List ℕ) (n slot first : ℕ) (w : View) (sees : Bool) → sees ≡ is_after first w → first ≡ get_or firsts slot 0 → w ≡ view_at (unit_at dag n).panorama slot
    → sees ≡ is_after (get_or firsts slot 0) (view_at (unit_at dag n).panorama slot)
test_is dag firsts n slot first w sees e f at = e ∙ ap (λ (k : ℕ). is_after k w) f ∙ ap (λ (u : View). is_after (get_or firsts slot 0) u) at

pub returns-then-no-is : goal.returns-then-no-is
returns-then-no-is c = λ saw.
    let was : c.args.no.0 ≤ get_or c.args.before.now c.args.slot 0 = subst (λ (n : ℕ). c.args.no.0 ≤ n) c.get-was.ensures c.if-no-was.true in
    let is : c.args.no.0 ≤ get_or c.args.firsts.now c.args.slot 0 = subst (λ (n : ℕ). c.args.no.0 ≤ n) c.get-is.ensures c.if-no-is.true in
    sym (amid_later c.args.question.now.weights.now c.args.question.now.dag.now c.args.before.now c.args.firsts.now c.args.no.0 c.args.slot c.args.question.now.asked.graph_is c.requires.known was is) ∙ saw

are_one : (a b : Bool) → beq a b ≡ true → a ≡ b
are_one true true e = refl
are_one true false e = absurd cc
are_one false true e = absurd cc
are_one false false e = refl

pub returns-then-is_after-sees : goal.returns-then-is_after-sees
returns-then-is_after-sees c = λ saw.
    let at = c.get-view.ensures ∙ ap (λ (p : List View). view_at p c.args.slot) (c.panorama.ensures ∙ ap (λ (u : SettledUnit). u.panorama) c.unit.ensures) in
    let was_is = test_is c.args.question.now.dag.now c.args.before.now c.args.no.0 c.args.slot c.get-was.result c.get-view.result c.is_after.result c.is_after.ensures c.get-was.ensures at in
    let sees_is = test_is c.args.question.now.dag.now c.args.firsts.now c.args.no.0 c.args.slot c.get-is.result c.get-view.result c.is_after-sees.result c.is_after-sees.ensures c.get-is.ensures at in
    sym (amid_same c.args.question.now.weights.now c.args.question.now.dag.now c.args.before.now c.args.firsts.now c.args.no.0 c.args.slot (sym was_is ∙ are_one c.is_after.result c.is_after-sees.result c.if-is_after-sees.true ∙ sees_is)) ∙ saw

-- of two that differ one is true
not_too : (a b : Bool) → beq a b ≡ false → b ≡ true → a ≡ false
not_too true true other e = absurd cc
not_too true false other e = absurd cc
not_too false b other e = refl

so_is : (a b : Bool) → beq a b ≡ false → b ≡ false → a ≡ true
so_is true b other e = refl
so_is false true other e = absurd cc
so_is false false other e = absurd cc

pub returns-then-sees : goal.returns-then-sees
returns-then-sees c = λ saw.
    let at = c.get-view.ensures ∙ ap (λ (p : List View). view_at p c.args.slot) (c.panorama.ensures ∙ ap (λ (u : SettledUnit). u.panorama) c.unit.ensures) in
    let was_is = test_is c.args.question.now.dag.now c.args.before.now c.args.no.0 c.args.slot c.get-was.result c.get-view.result c.is_after.result c.is_after.ensures c.get-was.ensures at in
    let sees_is = test_is c.args.question.now.dag.now c.args.firsts.now c.args.no.0 c.args.slot c.get-is.result c.get-view.result c.is_after-sees.result c.is_after-sees.ensures c.get-is.ensures at in
    let many = c.args.question.now.asked.weights_are.length_is in
    let bound = c.args.question.now.asked.weights_are.bounded in
    let within = c.requires.within in
    let is = sym sees_is ∙ c.if-sees.true in
    let was = sym was_is ∙ not_too c.is_after.result c.is_after-sees.result c.if-is_after-sees.false c.if-sees.true in
    let more = amid_more c.args.question.now.weights.now c.args.question.now.dag.now c.args.before.now c.args.firsts.now c.args.no.0 c.args.slot (omega arith) was is in
    let most = amid_most c.args.question.now.weights.now c.args.question.now.dag.now c.args.before.now c.args.firsts.now c.args.no.0 (c.args.slot + 1) in
    omega (arith, c.saturating_add.ensures)

pub returns-else-sees : goal.returns-else-sees
returns-else-sees c = λ saw.
    let at = c.get-view.ensures ∙ ap (λ (p : List View). view_at p c.args.slot) (c.panorama.ensures ∙ ap (λ (u : SettledUnit). u.panorama) c.unit.ensures) in
    let was_is = test_is c.args.question.now.dag.now c.args.before.now c.args.no.0 c.args.slot c.get-was.result c.get-view.result c.is_after.result c.is_after.ensures c.get-was.ensures at in
    let sees_is = test_is c.args.question.now.dag.now c.args.firsts.now c.args.no.0 c.args.slot c.get-is.result c.get-view.result c.is_after-sees.result c.is_after-sees.ensures c.get-is.ensures at in
    let many = c.args.question.now.asked.weights_are.length_is in
    let within = c.requires.within in
    let is = sym sees_is ∙ c.if-sees.false in
    let was = sym was_is ∙ so_is c.is_after.result c.is_after-sees.result c.if-is_after-sees.false c.if-sees.false in
    let less = amid_less c.args.question.now.weights.now c.args.question.now.dag.now c.args.before.now c.args.firsts.now c.args.no.0 c.args.slot (omega arith) was is in
    omega (arith, c.saturating_sub.ensures)
