use Rattle.std.proofs.Common.{◌≡◌, true, false, refl, sym, ◌∙◌}
use Rattle.std.proofs.lemmas.Bool.{false≢true}
use Rattle.hw_rounds.proofs.UnitLaws.{same_unit, other_unit, last_test, not_denied}
use Rattle.hw_rounds.proofs.evidence.check_pair.Goals as goal

pub returns-then-is_same_unit-clause-fault : goal.returns-then-is_same_unit-clause-fault
returns-then-is_same_unit-clause-fault c =
    let left = c.args.evidence.now.left.unit in
    let right = c.args.evidence.now.right.unit in
    last_test c.args.validators c.args.instance.now c.args.evidence.now true c.if-left-right.false c.if-left-validators.false c.if-left-right-2.false
    (not_denied _ c.ne.result c.ne.ensures c.if-ne.false)
    (not_denied _ c.ne-else-ne.result c.ne-else-ne.ensures c.if-ne-2.false)
    (same_unit left right (c.is_same_unit.ensures.same.0 c.if-is_same_unit.true))

pub returns-clause-pair : goal.returns-clause-pair
returns-clause-pair c =
    let left = c.args.evidence.now.left.unit in
    let right = c.args.evidence.now.right.unit in
    let differ : left ≡ right → ⊥ = λ same. false≢true (sym c.if-is_same_unit.false ∙ c.is_same_unit.ensures.same.1 same) in (
      last_test c.args.validators c.args.instance.now c.args.evidence.now false c.if-left-right.false c.if-left-validators.false c.if-left-right-2.false
          (not_denied _ c.ne.result c.ne.ensures c.if-ne.false)
          (not_denied _ c.ne-else-ne.result c.ne-else-ne.ensures c.if-ne-2.false)
          (other_unit left right differ),
      refl,
    )
