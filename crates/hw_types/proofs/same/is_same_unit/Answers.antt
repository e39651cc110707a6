use Rattle.std.proofs.Common.{◌≡◌, Bool, true, false, sym, ap, subst, ◌∙◌}
use Rattle.std.proofs.lemmas.Bool.{false≢true}
use Rattle.hw_types.specs.declared.unit.WireUnit.{WireUnit}
use Rattle.hw_types.specs.Same.{unit_eq}
use Rattle.hw_types.proofs.StableLaws.{both_ways}
use Rattle.hw_types.proofs.OrderLaws.{unit_same, unit_self}
use Rattle.hw_types.proofs.same.is_same_unit.Goals as goal

pub returns-then-has_same_numbers-clause-test : goal.returns-then-has_same_numbers-clause-test
returns-then-has_same_numbers-clause-test c =
    let left = c.args.left.now in
    let right = c.args.right.now in
    let numbers = c.has_same_numbers.ensures.0 c.if-has_same_numbers.true in
    both_ways c.has_same_lists.result (unit_eq left right)
    (λ lists. let same = c.has_same_lists.ensures.0 lists in
    subst (λ (w : WireUnit). unit_eq left w ≡ true)
    (λ i. record {
      instance = numbers.0 i;
      creator = numbers.1 i;
      seq = numbers.2 i;
      time = numbers.3 i;
      exponent = numbers.4 i;
      panorama = same.0 i;
      value = same.1 i;
      endorsed = same.2 i;
    })
    (unit_self left))
    (λ test. let same = unit_same left right test in
    c.has_same_lists.ensures.1
    (ap (λ (w : WireUnit). w.panorama) same, ap (λ (w : WireUnit). w.value) same, ap (λ (w : WireUnit). w.endorsed) same))

pub returns-else-has_same_numbers-clause-test : goal.returns-else-has_same_numbers-clause-test
returns-else-has_same_numbers-clause-test c =
    let left = c.args.left.now in
    let right = c.args.right.now in
    both_ways c.has_same_numbers.result (unit_eq left right)
    (λ h. absurd (false≢true (sym c.if-has_same_numbers.false ∙ h)))
    (λ test. let same = unit_same left right test in
    c.has_same_numbers.ensures.1 (
      ap (λ (w : WireUnit). w.instance) same,
      ap (λ (w : WireUnit). w.creator) same,
      ap (λ (w : WireUnit). w.seq) same,
      ap (λ (w : WireUnit). w.time) same,
      ap (λ (w : WireUnit). w.exponent) same,
    ))
