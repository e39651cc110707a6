use Rattle.std.proofs.Common.{sym, ◌∙◌, arith}
use Rattle.std.proofs.lemmas.List.{get_or_read}
use Rattle.hw_dag.specs.declared.numbers.View.TheVariants as view
use Rattle.hw_dag.proofs.LaneLaws.{lane_is_seen}
use Rattle.hw_dag.proofs.graph.Dag.is_on_slot_lane.Goals as goal

pub on_lane-requires-clause-high_known : goal.on_lane-requires-clause-high_known
on_lane-requires-clause-high_known c =
    let slot = c.signed.result.now.unit.creator in
    let read = get_or_read c.args.slots.now slot c.index-slots-slot.result (omega arith) c.index-slots-slot.is view.Absent in
    c.requires.known slot c.in-Correct.high (sym read ∙ sym c.view.ensures ∙ c.in-Correct.is)

pub returns-in-Correct : goal.returns-in-Correct
returns-in-Correct c = λ t.
    let slot = c.signed.result.now.unit.creator in
    let high = c.in-Correct.high in
    let read = get_or_read c.args.slots.now slot c.index-slots-slot.result (omega arith) c.index-slots-slot.is view.Absent in
    let here = sym read ∙ sym c.view.ensures ∙ c.in-Correct.is in
    record {
      slot = slot;
      cited = high;
      observed = here;
      seen = lane_is_seen c.args.self.now c.recall_graph.ensures c.args.low.0 high.0 c.requires.low_known (c.requires.known slot high here) (sym c.on_lane.ensures ∙ t);
    }
