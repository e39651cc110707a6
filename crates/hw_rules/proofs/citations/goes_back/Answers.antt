use Rattle.std.proofs.Common.{◌<◌, ℕ, sym, ap, subst, ◌∙◌, arith}
use Rattle.std.proofs.lemmas.Bool.{lt-ltb}
use Rattle.std.specs.Prelude.{nat_lt}
use Rattle.hw_types.specs.declared.unit.SignedUnit.{SignedUnit}
use Rattle.hw_types.specs.declared.unit.WireUnit.{WireUnit}
use Rattle.hw_types.specs.Graph.{Node}
use Rattle.hw_dag.specs.Dag.{unit_at}
use Rattle.hw_rules.proofs.CaseLaws.{length_is, view_within, some_number, no_number}
use Rattle.hw_rules.proofs.citations.goes_back.Goals as goal

pub returns-then-time-wire_unit : goal.returns-then-time-wire_unit
returns-then-time-wire_unit c =
    sym (some_number c.args.dag.now c.args.prepared.now c.requires (λ (w : Node). nat_lt c.args.prepared.now.signed.unit.time w.unit.time) c.loop-validator.validator c.in-Some.no c.in-Some.ensures.cited
    (lt-ltb _ _ (subst (λ (t : ℕ). t < (unit_at c.args.dag.now c.in-Some.no.0).signed.unit.time) (ap (λ (s : SignedUnit). s.unit.time) c.signed.ensures)
    (subst (λ (w : WireUnit). c.signed.result.now.unit.time < w.time) c.wire_unit.ensures c.if-time-wire_unit.true))))

pub returns : goal.returns
returns c = sym (no_number c.args.dag.now c.args.prepared.now c.requires (λ (w : Node). nat_lt c.args.prepared.now.signed.unit.time w.unit.time)
    (λ v number e. ap (λ (s : SignedUnit). nat_lt s.unit.time (unit_at c.args.dag.now number.0).signed.unit.time) (sym c.signed.ensures) ∙ c.loop-validator.invariant v number
    (let lt = view_within c.args.prepared.now.panorama v number e in let len = length_is c.args.dag.now c.args.prepared.now c.requires in let over = c.loop-validator-test.false in let end = c.validators-validator-end.ensures.validators in omega arith) e))
