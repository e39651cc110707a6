use Rattle.std.proofs.Common.{subst, arith}
use Rattle.hw_dag.specs.declared.numbers.View.{View}
use Rattle.hw_dag.specs.Dag.{view_at}
use Rattle.hw_core_cases.specs.Slots.{IsBy}
use Rattle.hw_core_cases.proofs.SlotLaws.{each_more, are_by_all}
use Rattle.hw_core_cases.proofs.graph.panoramas.is_panorama.Goals as goal

pub loop-validator-preserved : goal.loop-validator-preserved
loop-validator-preserved c =
    each_more (λ v. IsBy c.args.dag.now (view_at c.args.panorama.now v) v) c.loop-validator.validator c.loop-validator.invariant
    (subst (λ (w : View). IsBy c.args.dag.now w c.loop-validator.validator) c.get.ensures (c.is_of.ensures c.if-not-is_of.false))

pub returns : goal.returns
returns c = λ t.
    are_by_all c.args.dag.now c.args.panorama.now c.loop-validator.validator c.requires
    (let over = c.loop-validator-test.false in let end = c.validators-validator-end.ensures.validators in omega arith) c.loop-validator.invariant
