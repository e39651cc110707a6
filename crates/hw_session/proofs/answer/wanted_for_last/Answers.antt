use Rattle.std.proofs.Common.{◌≡◌, ◌++◌, ◌∷◌, [], ap, ◌∙◌}
use Rattle.hw_types.specs.declared.unit.Vertex.{Vertex}
use Rattle.hw_core.specs.Readers.{missing_needs}
use Rattle.hw_session.specs.Serving.{first_missing}
use Rattle.hw_session.proofs.WantedLaws.{ok_more, wanted_is, unit_named, few_taken}
use Rattle.hw_session.proofs.answer.wanted_for_last.Goals as goal

pub returns-in-Some-clause-wanted : goal.returns-in-Some-clause-wanted
returns-in-Some-clause-wanted c = ok_more c.first_missing.result
    (λ needs first. wanted_is c.args.core.now c.journal_count-count.result c.journal_at.result.now c.unit_names.result.now c.journal_count-count.ensures c.journal_at.ensures.vertex c.unit_names.ensures
    c.in-Unit.field-0 c.in-Some.name.now needs c.in-Unit.is c.in-Some.ensures.value first)
    c.first_missing.ensures

pub returns-in-Some-clause-few : goal.returns-in-Some-clause-few
returns-in-Some-clause-few c = ok_more c.first_missing.result (λ needs first. few_taken needs (missing_needs c.args.core.now c.in-Some.name.now) first) c.first_missing.ensures

pub returns-in-None-clause-wanted : goal.returns-in-None-clause-wanted
returns-in-None-clause-wanted c = unit_named c.args.core.now c.journal_count-count.result c.journal_at.result.now c.unit_names.result.now c.journal_count-count.ensures c.journal_at.ensures.vertex c.unit_names.ensures
    c.in-Unit.field-0 c.new-in-None.result c.in-Unit.is c.in-None.ensures.value
