use Rattle.hw_light.specs.declared.asked.Asked.TheVariants.{NoDecision, Answered}
use Rattle.hw_light.proofs.ToldLaws.{told_is}
use Rattle.hw_light.proofs.asked.certify_block.Goals as goal

pub returns-in_ok-certify-in-Some-clause-told : goal.returns-in_ok-certify-in-Some-clause-told
returns-in_ok-certify-in-Some-clause-told c =
    told_is c.args.core.now c.args.block.now (Answered c.in_ok-certify-in-Some.field-0) (c.in-Some.index, c.in-Some.ensures.found, c.in_ok-certify-in-Some.ensures.answer)

pub returns-in-None-clause-told : goal.returns-in-None-clause-told
returns-in-None-clause-told c = told_is c.args.core.now c.args.block.now NoDecision c.in-None.ensures.none
