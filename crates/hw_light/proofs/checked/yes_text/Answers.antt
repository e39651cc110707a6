use Rattle.std.proofs.Common.{◌≡◌, ℕ, Option, Some, sym, ap, ◌∙◌}
use Rattle.std.proofs.lemmas.Result.{IfOk-weaker}
use Rattle.hw_types.specs.declared.answers.Decision.{Decision}
use Rattle.hw_light.specs.Texts.{yes_line}
use Rattle.hw_light.specs.Asked.{IsDecisionOf, decided_block}
use Rattle.hw_light.specs.CheckedTexts.{height_or_zero}
use Rattle.hw_light.proofs.ToldLaws.{decided_is}
use Rattle.hw_light.proofs.checked.yes_text.Goals as goal

pub returns-clause-told : goal.returns-clause-told
returns-clause-told c =
    let core = c.args.core.now in
    let block = c.args.block.now in
    let told : IsDecisionOf core block c.in-Some.index = c.in-Some.ensures.found in
    let both : Some c.decision.result.now ≡ Some told.decision = c.decision.ensures ∙ told.at in
    let same : c.decision.result.now ≡ told.decision = cc in
    IfOk-weaker c.height_text.result _ (λ text. (index : ℕ) × (told : IsDecisionOf core block index) × (text ≡ yes_line block told.decision.height))
    (λ text e. (c.in-Some.index, told, e ∙ ap (λ (d : Decision). yes_line block d.height) same)) c.height_text.ensures

pub returns-clause-line : goal.returns-clause-line
returns-clause-line c =
    let core = c.args.core.now in
    let block = c.args.block.now in
    let told : IsDecisionOf core block c.in-Some.index = c.in-Some.ensures.found in
    let both : Some c.decision.result.now ≡ decided_block core block = c.decision.ensures ∙ told.at ∙ sym (decided_is core block c.in-Some.index told) in
    IfOk-weaker c.height_text.result _ (λ text. text ≡ yes_line block (height_or_zero (decided_block core block)))
    (λ text e. e ∙ ap (λ (o : Option Decision). yes_line block (height_or_zero o)) both) c.height_text.ensures
