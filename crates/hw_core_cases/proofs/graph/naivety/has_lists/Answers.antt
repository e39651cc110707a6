use Rattle.std.proofs.Common.{subst, arith}
use Rattle.hw_dag.specs.declared.numbers.View.{View}
use Rattle.hw_dag.specs.Dag.{view_at}
use Rattle.hw_core_cases.specs.Slots.{HasListOf}
use Rattle.hw_core_cases.proofs.SlotLaws.{each_more, lists_all}
use Rattle.hw_core_cases.proofs.graph.naivety.has_lists.Goals as goal

pub loop-validator-preserved : goal.loop-validator-preserved
loop-validator-preserved c =
    each_more (λ v. HasListOf c.args.dag.now (view_at c.args.panorama.now v) c.args.endorsed.now) c.loop-validator.validator c.loop-validator.invariant
    (subst (λ (w : View). HasListOf c.args.dag.now w c.args.endorsed.now) c.get.ensures (c.has_list.ensures c.if-not-has_list.false))

pub returns : goal.returns
returns c = λ t.
    lists_all c.args.dag.now c.args.panorama.now c.args.endorsed.now c.loop-validator.validator c.requires.length_is
    (let over = c.loop-validator-test.false in let end = c.validators-validator-end.ensures.validators in omega arith) c.loop-validator.invariant
