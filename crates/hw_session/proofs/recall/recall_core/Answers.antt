use Rattle.std.proofs.Common.{List, subst, ◌∙◌, arith}
use Rattle.std.specs.List.{All}
use Rattle.std.proofs.lemmas.List.{take_all}
use Rattle.hw_types.specs.declared.unit.Vertex.{Vertex}
use Rattle.hw_codec.specs.Ranges.{ConfigInRange}
use Rattle.hw_session.proofs.RecallLaws.{Keeps, keeps_more, all_in_range, core_reached}
use Rattle.hw_session.proofs.recall.recall_core.Goals as goal

pub loop-place-preserved : goal.loop-place-preserved
loop-place-preserved c =
    keeps_more c.args.core.now.journal c.loop-place.place c.journal_at.result.now c.journal_at.ensures.vertex c.loop-place.invariant (c.vertex_is_in_range.ensures, c.journal_at.ensures.fits)

pub returns-clause-reached : goal.returns-clause-reached
returns-clause-reached c =
    core_reached c.args.core.now c.state.ensures.reached
    (subst (λ (vs : List Vertex). All Keeps vs) (take_all c.loop-place.place c.args.core.now.journal (omega arith)) c.loop-place.invariant)

pub returns-clause-lawful : goal.returns-clause-lawful
returns-clause-lawful c = c.state.ensures.lawful

pub returns-clause-config : goal.returns-clause-config
returns-clause-config c = subst ConfigInRange (c.config.ensures.config ∙ c.state.ensures.config) c.config_is_in_range.ensures

pub returns-clause-vertices : goal.returns-clause-vertices
returns-clause-vertices c =
    all_in_range c.args.core.now.journal
    (subst (λ (vs : List Vertex). All Keeps vs) (take_all c.loop-place.place c.args.core.now.journal (omega arith)) c.loop-place.invariant)
