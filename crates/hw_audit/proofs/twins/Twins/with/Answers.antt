use Rattle.std.proofs.Common.{◌⊎◌, [], ◌∷◌, ◌++◌, Option, Some, ap, sym, subst, ◌∙◌}
use Rattle.std.specs.Option.{option_copied}
use Rattle.hw_types.specs.declared.unit.WireUnit.{WireUnit}
use Rattle.hw_types.specs.Same.{unit_eq}
use Rattle.hw_audit.specs.Held.{HeldUnit}
use Rattle.hw_audit.specs.Twins.{TwinUnits, AreTwins, Precedes, AreOne}
use Rattle.hw_audit.proofs.TwinLaws.{one_unit, twins_one, twins_before, twins_second, twins_lesser}
use Rattle.hw_audit.proofs.twins.Twins.with.Goals as goal

pub returns-then-is_same_unit : goal.returns-then-is_same_unit
returns-then-is_same_unit c ys is =
    subst (λ (r : TwinUnits). AreTwins (ys ++ c.args.unit.now ∷ []) r)
    (sym (c.make_twins.ensures ∙ ap (λ (a : HeldUnit). record { first = a; second = option_copied c.second.result }) c.first-first.ensures ∙ ap (λ (o : Option HeldUnit). record { first = c.args.self.now.first; second = o }) c.second.ensures))
    (twins_one ys c.args.self.now c.args.unit.now is
    (subst (λ (a : HeldUnit). AreOne c.args.unit.now a) c.first-first.ensures
    (one_unit c.first-first.result.now c.args.unit.now c.unit.ensures.is_name c.unit-2.ensures.is_name
    (ap (λ (u : WireUnit). unit_eq u c.args.unit.now.signed.unit) (sym c.unit.ensures.unit) ∙ ap (λ (u : WireUnit). unit_eq c.unit.result.now u) (sym c.unit-2.ensures.unit) ∙ sym c.is_same_unit.ensures.test ∙ c.if-is_same_unit.true))))

pub returns-then-branch : goal.returns-then-branch
returns-then-branch c ys is =
    subst (λ (r : TwinUnits). AreTwins (ys ++ c.args.unit.now ∷ []) r)
    (sym (c.make_twins-then-branch.ensures ∙ ap (λ (a : HeldUnit). record { first = c.args.unit.now; second = Some a }) c.first-first.ensures))
    (twins_before ys c.args.self.now c.args.unit.now is
    (subst (λ (a : HeldUnit). Precedes c.args.unit.now a) c.first-first.ensures (sym c.in_ok-comes_before.ensures.before ∙ c.if-branch.true))
    (ap (λ (a : HeldUnit). unit_eq a.signed.unit c.args.unit.now.signed.unit) (sym c.first-first.ensures) ∙ ap (λ (u : WireUnit). unit_eq u c.args.unit.now.signed.unit) (sym c.unit.ensures.unit)
    ∙ ap (λ (u : WireUnit). unit_eq c.unit.result.now u) (sym c.unit-2.ensures.unit) ∙ sym c.is_same_unit.ensures.test ∙ c.if-is_same_unit.false))

pub returns-in-None : goal.returns-in-None
returns-in-None c ys is =
    subst (λ (r : TwinUnits). AreTwins (ys ++ c.args.unit.now ∷ []) r)
    (sym (c.make_twins-in-None.ensures ∙ ap (λ (a : HeldUnit). record { first = a; second = Some c.args.unit.now }) c.first-first.ensures))
    (twins_second ys c.args.self.now c.args.unit.now is
    (subst (λ (a : HeldUnit). AreOne c.args.unit.now a ⊎ Precedes a c.args.unit.now) c.first-first.ensures (c.in_ok-comes_before.ensures.behind c.if-branch.false))
    (ap (λ (a : HeldUnit). unit_eq a.signed.unit c.args.unit.now.signed.unit) (sym c.first-first.ensures) ∙ ap (λ (u : WireUnit). unit_eq u c.args.unit.now.signed.unit) (sym c.unit.ensures.unit)
    ∙ ap (λ (u : WireUnit). unit_eq c.unit.result.now u) (sym c.unit-2.ensures.unit) ∙ sym c.is_same_unit.ensures.test ∙ c.if-is_same_unit.false)
    (sym c.second-2.ensures ∙ ap option_copied c.in-None.is))

pub returns-in_ok-lesser-in-Some : goal.returns-in_ok-lesser-in-Some
returns-in_ok-lesser-in-Some c ys is =
    subst (λ (r : TwinUnits). AreTwins (ys ++ c.args.unit.now ∷ []) r)
    (sym (c.make_twins-in-Some.ensures ∙ ap (λ (a : HeldUnit). record { first = a; second = Some c.in_ok-lesser-in-Some.field-0.now }) c.first-first.ensures))
    (twins_lesser ys c.args.self.now c.args.unit.now is
    (subst (λ (a : HeldUnit). AreOne c.args.unit.now a ⊎ Precedes a c.args.unit.now) c.first-first.ensures (c.in_ok-comes_before.ensures.behind c.if-branch.false))
    (ap (λ (a : HeldUnit). unit_eq a.signed.unit c.args.unit.now.signed.unit) (sym c.first-first.ensures) ∙ ap (λ (u : WireUnit). unit_eq u c.args.unit.now.signed.unit) (sym c.unit.ensures.unit)
    ∙ ap (λ (u : WireUnit). unit_eq c.unit.result.now u) (sym c.unit-2.ensures.unit) ∙ sym c.is_same_unit.ensures.test ∙ c.if-is_same_unit.false)
    c.in-Some.second.now c.in_ok-lesser-in-Some.field-0.now (sym c.second-2.ensures ∙ ap option_copied c.in-Some.is) c.in_ok-lesser-in-Some.ensures)
