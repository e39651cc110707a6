use Rattle.std.proofs.Common.{◌-◌, arith}
use Rattle.std.proofs.lemmas.Grind.{common_steps}
use Rattle.hw_replay.proofs.Serving.{range_more}
use Rattle.hw_replay.proofs.fanout.number.Goals as goal

pub loop-place-preserved : goal.loop-place-preserved
loop-place-preserved c = record {
  placed = grind (arith, common_steps, range_more c.args.from (c.loop-place.place - c.args.from), c.loop-place.invariant.placed, c.push.ensures.items, c.loop-place.auto.place);
  room = grind (arith, common_steps, c.loop-place.invariant.room, c.push.ensures, c.loop-place-test.true);
}
