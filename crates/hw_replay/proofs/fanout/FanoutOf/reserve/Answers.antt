use Rattle.std.proofs.Common.{arith}
use Rattle.std.proofs.lemmas.Grind.{common_steps}
use Rattle.std.proofs.lemmas.List.FromFn.{length-range_with_len}
use Rattle.hw_replay.proofs.fanout.FanoutOf.reserve.Goals as goal

pub invariant_of-self-then-consumers-known : goal.invariant_of-self-then-consumers-known
invariant_of-self-then-consumers-known g c = grind (arith, common_steps, length-range_with_len, c.reserve-then-consumers-known.ensures.items, c.in_ok-reserve-2.ensures.ok, c.number.ensures, c.reserve.ensures.items, c.len.ensures, c.len-2.ensures, c.len-then-consumers-known.ensures, c.if-consumers-known.true)
