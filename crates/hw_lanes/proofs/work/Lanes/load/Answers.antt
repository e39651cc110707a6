use Rattle.std.proofs.Common.{arith}
use Rattle.hw_lanes.proofs.AtWork.{AreAt_loaded}
use Rattle.hw_lanes.proofs.work.Lanes.load.Goals as goal

pub returns-clause-at : goal.returns-clause-at
returns-clause-at c =
    AreAt_loaded c.args.bytes.now c.args.parts.now c.args.self.now c.args.state.now c.restarted.result c.args.lane c.args.next
    c.block_count.result (record { bytes = c.tail.result }) c.requires.at (omega arith) (omega arith) (omega arith) c.requires.lane c.requires.next
    c.restarted.ensures.at c.restarted.ensures.others
    (rw (← c.piece-message.ensures) c.tail.ensures) (rw (← c.piece-message.ensures) c.block_count.ensures.value) c.block_count.ensures.small
