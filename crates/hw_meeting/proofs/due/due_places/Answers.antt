use Rattle.std.proofs.Common.{length, ◌∙◌}
use Rattle.hw_agree.specs.Converge.{is_due}
use Rattle.hw_meeting.proofs.DueLaws.{table_is, one_place, one_within}
use Rattle.hw_meeting.proofs.due.due_places.Goals as goal

pub is_due-is_due-requires : goal.is_due-is_due-requires
is_due-is_due-requires c = table_is c.args.torn.now c.args.mine.now c.args.theirs.now c.as_slice.result.now (length c.args.mine.now) (c.as_slice.ensures.value ∙ c.in_ok-table.ensures)

pub loop-place-preserved : goal.loop-place-preserved
loop-place-preserved c = rw c.in_ok-put_if.ensures (record {
  due = one_place (is_due c.args.torn.now c.args.mine.now c.args.theirs.now) c.args.core.now.journal c.is_due-is_due.result c.loop-place.place c.journal_at.result.now c.loop-place.places c.journal_at.ensures.vertex c.is_due-is_due.ensures c.loop-place.invariant.due;
  within = one_within c.is_due-is_due.result c.loop-place.place c.args.count c.loop-place.places c.loop-place-test.true c.loop-place.invariant.within;
})
