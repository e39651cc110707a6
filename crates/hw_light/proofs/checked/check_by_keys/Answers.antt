use Rattle.std.proofs.Common.{List, ap, ◌∙◌}
use Rattle.hw_types.specs.declared.unit.Vertex.{Vertex}
use Rattle.hw_light.specs.CheckedTexts.{verdicts_by}
use Rattle.hw_keys.specs.Signed.{verdict_of}
use Rattle.hw_light.proofs.CheckedLaws.{signed_by, answered}
use Rattle.hw_light.proofs.checked.check_by_keys.Goals as goal

pub returns-clause-signed : goal.returns-clause-signed
returns-clause-signed c =
    let verdicts = c.as_slice-2.ensures.value ∙ c.in_ok-verdicts.ensures ∙ ap (λ (vs : List Vertex). verdicts_by c.args.keys.now vs) c.as_slice.ensures in
    signed_by (verdict_of c.args.keys.now) c.args.certificate.now.vertices c.as_slice-2.result.now c.check.result verdicts c.check.ensures.signed

pub returns-clause-said : goal.returns-clause-said
returns-clause-said c =
    let verdicts = c.as_slice-2.ensures.value ∙ c.in_ok-verdicts.ensures ∙ ap (λ (vs : List Vertex). verdicts_by c.args.keys.now vs) c.as_slice.ensures in
    answered c.args.certificate.now c.as_slice-2.result.now (verdicts_by c.args.keys.now c.args.certificate.now.vertices) c.check.result verdicts c.check.ensures.answer
