use Rattle.std.proofs.Common.{◌≡◌, Option, Some, sym, ap, ◌∙◌}
use Rattle.hw_types.specs.declared.answers.Decision.{Decision}
use Rattle.hw_light.specs.Asked.{decided_block}
use Rattle.hw_light.specs.CheckedTexts.{height_or_zero}
use Rattle.hw_light.proofs.ToldLaws.{decided_is, decided_none}
use Rattle.hw_c.proofs.light.height_in.Goals as goal

pub returns-in-Some : goal.returns-in-Some
returns-in-Some c =
    let core = c.args.core.now in
    let block = c.args.block.now in
    let told = c.in-Some.ensures.found in
    let both : Some c.decision.result.now ≡ decided_block core block = c.decision.ensures ∙ told.at ∙ sym (decided_is core block c.in-Some.index told) in
    ap (λ (o : Option Decision). height_or_zero o) both

pub returns-in-None : goal.returns-in-None
returns-in-None c = ap (λ (o : Option Decision). height_or_zero o) (sym (decided_none c.args.core.now c.args.block.now c.in-None.ensures.none))
