use Rattle.std.proofs.Common.{List, sym, ap, ◌∙◌}
use Rattle.std.proofs.lemmas.List.{get_or_read}
use Rattle.hw_dag.specs.declared.numbers.View.{View}
use Rattle.hw_dag.specs.declared.numbers.View.TheVariants as view
use Rattle.hw_dag.specs.Dag.{view_at}
use Rattle.hw_validator.proofs.step.observations.Goals as goal

pub observation-requires : goal.observation-requires
observation-requires c = λ number e.
    let seen = c.view.ensures ∙ get_or_read c.views-slot-items.result.now c.loop-slot.slot-index c.slot-item.result c.loop-slot-test.true c.slot-item.is view.Absent in
    c.requires.known c.loop-slot.slot-index number (ap (λ (ws : List View). view_at ws c.loop-slot.slot-index) (sym c.views-slot-items.ensures) ∙ sym seen ∙ e)
