use Rattle.std.proofs.Common.{sym, ap, ◌∙◌, arith}
use Rattle.std.proofs.lemmas.Bool.{ne_eqb}
use Rattle.hw_types.specs.declared.unit.WireUnit.{WireUnit}
use Rattle.hw_rules.proofs.CaseLaws.{length_is, view_within, foreign_slot, no_foreign_slot}
use Rattle.hw_rules.proofs.citations.has_foreign_slot.Goals as goal

pub returns-then-wire_unit-validator : goal.returns-then-wire_unit-validator
returns-then-wire_unit-validator c =
    sym (foreign_slot c.args.dag.now c.args.prepared.now c.requires c.loop-validator.validator c.in-Some.no c.in-Some.ensures.cited (ne_eqb _ _ (λ same. c.if-wire_unit-validator.true (ap (λ (w : WireUnit). w.creator) c.wire_unit.ensures ∙ same))))

pub returns : goal.returns
returns c = sym (no_foreign_slot c.args.dag.now c.args.prepared.now c.requires (λ v number e. c.loop-validator.invariant v number
    (let lt = view_within c.args.prepared.now.panorama v number e in let len = length_is c.args.dag.now c.args.prepared.now c.requires in let over = c.loop-validator-test.false in let end = c.validators-validator-end.ensures.validators in omega arith) e))
