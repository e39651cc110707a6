use Rattle.std.proofs.Common.{sym, ◌∙◌}
use Rattle.std.proofs.lemmas.List.{get_or_read}
use Rattle.hw_dag.specs.declared.numbers.View.TheVariants as view
use Rattle.hw_dag.proofs.graph.Dag.told_by.Goals as goal

pub known_below-requires-clause-high_known : goal.known_below-requires-clause-high_known
known_below-requires-clause-high_known c =
    let seen = c.view.ensures ∙ get_or_read c.args.slots.now c.loop-slot.slot-index c.slot-item.result c.loop-slot-test.true c.slot-item.is view.Absent in
    c.requires.known c.loop-slot.slot-index c.in-Correct.high (sym seen ∙ c.in-Correct.is)
